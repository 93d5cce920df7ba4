use Rattle.std.proofs.Common.{◌≡◌, ◌++◌, map, take}
use Rattle.std.specs.List.{flat_map}
use Rattle.caf_teamcheck.specs.Sites.{sites_in}
use Rattle.caf_teamcheck.proofs.site.+sites.Given as goal

-- what was there, and the places of those so far
abbrev pub invariant-add_block_sites-loop-statement : goal.invariant-add_block_sites-loop-statement
invariant-add_block_sites-loop-statement l = l.sites ≡ l.initial.sites ++ flat_map (λ found. found) (map sites_in (take l.statement-index l.block))
