-- What is known where answers one behind the other give a value.
use Rattle.std.proofs.Common.{◌≡◌, Bool, true, false, Result, Ok, Err, refl, if◌then◌else◌}
use Rattle.caf_declare.specs.declared.fault.Fault.{Fault}
use Rattle.caf_declare.specs.Names.{after}

-- the first gives a value, with which the second gives its own
pub record Went {A B : Type 0} (m : Result A Fault) (go : A → Result B Fault) (b : B) : Type 0 where
  pub value : A
  pub is : m ≡ Ok value
  pub goes : go value ≡ Ok b

pub went : {A B : Type 0} (m : Result A Fault) (go : A → Result B Fault) (b : B) → after m go ≡ Ok b → Went m go b
went (Ok a) go b h = record { value = a; is = refl; goes = h }
went (Err f) go b h = absurd (cc)

-- a test that holds
pub held : {A : Type 0} (t : Bool) (a b : A) (f : Fault) → (if t then Ok a else Err f) ≡ Ok b → (t ≡ true) × (a ≡ b)
held true a b f h = (refl, (cc))
held false a b f h = absurd (cc)

-- a test that doesn't
pub unheld : {A : Type 0} (t : Bool) (a b : A) (f : Fault) → (if t then Err f else Ok a) ≡ Ok b → (t ≡ false) × (a ≡ b)
unheld false a b f h = (refl, (cc))
unheld true a b f h = absurd (cc)

-- a test before an answer
pub chosen : {A : Type 0} (t : Bool) (m : Result A Fault) (a : A) (f : Fault) → (if t then m else Err f) ≡ Ok a → (t ≡ true) × (m ≡ Ok a)
chosen true m a f h = (refl, h)
chosen false m a f h = absurd (cc)

-- a value, and a fault
abbrev pub fine : {A : Type 0} → A → Result A Fault
fine a = Ok a

abbrev pub wrong : {A : Type 0} → Fault → Result A Fault
wrong f = Err f

pub same_value : {A : Type 0} (a b : A) → fine a ≡ Ok b → a ≡ b
same_value a b h = cc

pub no_value : {A C : Type 0} (f : Fault) (a : A) → wrong f ≡ Ok a → C
no_value f a h = absurd (cc)
