-- What the parts of a Step at an image have done.
use Rattle.caf_base.specs.declared.trap.Trap.{Trap}
use Rattle.caf_source.specs.declared.outcome.Outcome.TheVariants as outcome
use Rattle.caf_source.specs.declared.rewind.Saved.{Saved}
use Rattle.caf_source.specs.declared.state.Image.{Image}
use Rattle.caf_source.specs.declared.state.Live.{Live}
use Rattle.caf_source.specs.Effects.{lived, Lived, stopped}
use Rattle.caf_source.specs.Rewound.{rewound_live}

-- a trap was recorded at the image, and its task put back
abbrev pub put_back : Image → Live → Saved → Trap → Lived
put_back im l saved trap = lived (stopped im trap) (rewound_live saved l) outcome.Local
