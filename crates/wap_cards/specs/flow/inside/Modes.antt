-- The modes of paragraphs (WAP-191, section 11.8.3), as the code keeps them.
use Rattle.std.specs.Prelude.{Bool, if◌then◌else◌}
use Rattle.wap_layout.specs.declared.flow.Flow.{Flow}
use Rattle.wap_layout.specs.declared.flow.Flow.TheVariants.{Wrap, NoWrap}

abbrev pub paragraph_mode : Bool → Flow
paragraph_mode is_nowrap = if is_nowrap then NoWrap else Wrap
