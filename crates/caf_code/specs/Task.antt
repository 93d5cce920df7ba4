-- A task of the virtual machine.
use Rattle.std.specs.Prelude.{ℕ, ◌+◌, List, [], Option, ℤ}
use Rattle.caf_base.specs.declared.operation.EventAt.{EventAt}
use Rattle.caf_code.specs.declared.task.CopyOut.{CopyOut}
use Rattle.caf_code.specs.declared.task.CopyTarget.{CopyTarget}
use Rattle.caf_code.specs.declared.task.Listed.{Listed}
use Rattle.caf_code.specs.declared.task.Loop.{Loop}
use Rattle.caf_code.specs.declared.task.Wait.{Wait}

pub record Frame : Type 0 where
  -- the dummies and locals of the subroutine
  pub cells : List ℤ
  -- the operands, from the top
  pub stack : List ℤ
  -- the values that blocking reads brought
  pub held : List ℤ
  -- the loops that are open, the innermost first
  pub loops : List Loop
  -- the sections and events of a statement
  pub listed : List Listed
  -- where the dummies of the next call will be copied out to
  pub outs : List CopyTarget

pub record OpenCall : Type 0 where
  -- the frame that called
  pub caller : Frame
  -- the address of the `call`
  pub from : ℕ
  -- the dummies that are copied out at its end
  pub outs : List CopyOut

pub record Task : Type 0 where
  pub address : ℕ
  pub frame : Frame
  -- the open calls, the latest first
  pub calls : List OpenCall
  -- the parts of the line that is being printed
  pub parts : List (List ℕ)
  pub wait : Option Wait
  -- the event that its ship carries
  pub done : Option EventAt

abbrev pub with_stack : List ℤ → Task → Task
with_stack stack t = record t { frame = record t.frame { stack = stack } }

-- so many instructions on, with these operands
abbrev pub past : ℕ → List ℤ → Task → Task
past n stack t = record t { address = t.address + n; frame = record t.frame { stack = stack } }

-- the end of a Step, which drops the values held and the sections and events listed; the task goes on at the address
abbrev pub ends_at : ℕ → List ℤ → Task → Task
ends_at address stack t = record t { address = address; frame = record t.frame { stack = stack; held = []; listed = [] } }
