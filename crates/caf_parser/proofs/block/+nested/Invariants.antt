use Rattle.caf_parser.proofs.block.+nested.Given as goal

abbrev pub decreases-inner_block : goal.decreases-inner_block
decreases-inner_block l = l.depth

abbrev pub decreases-inner_branches : goal.decreases-inner_branches
decreases-inner_branches l = l.depth
