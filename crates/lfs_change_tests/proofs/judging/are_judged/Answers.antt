-- What an image mounts to has a sound outline.
use Rattle.std.proofs.Common.{subst, sym, ◌∙◌}
use Rattle.lfs_fs.specs.Sound.{IsSound}
use Rattle.lfs_change_tests.proofs.judging.are_judged.Goals as goal

pub all_are_judged-requires : goal.all_are_judged-requires
all_are_judged-requires c =
    let is = c.in-Ok.ensures.mounted in
    subst IsSound (sym (c.outline.ensures ∙ is.outline)) (c.outlines_are_sound.ensures is.volume is.sound)
