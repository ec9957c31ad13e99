-- The chunks of eight bytes and the rest are the whole.
use Rattle.std.proofs.Common.{◌&&◌, refl, ap, ap₂, sym, ◌∙◌}
use Rattle.std.specs.List.{list_all}
use Rattle.lfs_tag.specs.LogSeen.{is_erased}
use Rattle.lfs_tag.proofs.ErasedEights.{erased-parts}
use Rattle.lfs_tag.proofs.log.is_erased.Goals as goal

pub returns-then-are_erased_eights : goal.returns-then-are_erased_eights
returns-then-are_erased_eights c =
    c.are_erased_bytes.ensures ∙ ap is_erased c.as_chunks.ensures.back
    ∙ sym (ap₂ ◌&&◌ (sym (ap (list_all is_erased) c.as_chunks.ensures.front) ∙ sym c.are_erased_eights.ensures
    ∙ c.if-are_erased_eights.true) refl)
    ∙ erased-parts c.args.bytes.now

pub returns-else-are_erased_eights : goal.returns-else-are_erased_eights
returns-else-are_erased_eights c =
    c.if-are_erased_eights.false
    ∙ sym (ap₂ ◌&&◌ (sym (ap (list_all is_erased) c.as_chunks.ensures.front) ∙ sym c.are_erased_eights.ensures
    ∙ c.if-are_erased_eights.false) refl)
    ∙ erased-parts c.args.bytes.now
