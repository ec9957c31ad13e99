-- Outlines of sound volumes are sound.
use Rattle.std.proofs.Common.{sym, ◌∙◌, subst, arith}
use Rattle.std.specs.Prelude.{All}
use Rattle.std.proofs.lemmas.List.Elements.{All-map, All-weaker}
use Rattle.lfs_fs.specs.Directory.{Directory, entries, key}
use Rattle.lfs_fs.specs.Entry.{Entry}
use Rattle.lfs_fs.specs.Outlined.{outlined, outlined_directory, outlined_entry}
use Rattle.lfs_fs.specs.Sound.{IsProper}
use Rattle.lfs_fs.specs.SoundOutlines.{OutlinesAreSound}
use Rattle.lfs_fs.specs.Tree.{Reached}
use Rattle.lfs_fs.specs.declared.limits.Limits.{Limits}
use Rattle.lfs_fs.proofs.OutlinedLemmas.{all_rise_outlined, outlined_begins, outlined_delta, outlined_entries, outlined_length}
use Rattle.lfs_fs.proofs.OutlinedLemmas.{outlined_named, outlined_reached, outlined_uses}
use Rattle.lfs_fs.proofs.OutlinedFaultLemmas.{starts_outlined}

proper : (limits : Limits) (e : Entry) → IsProper limits e → IsProper limits (outlined_entry e)
proper limits e is = record {
  name = is.name;
  name_fits = is.name_fits;
  file_fits = omega (arith, outlined_length e.body, is.file_fits);
  attributes = is.attributes;
}

proper_in : (limits : Limits) (d : Directory) → All (IsProper limits) (entries d) → All (IsProper limits) (entries (outlined_directory d))
proper_in limits d all =
    subst (All (IsProper limits)) (sym (outlined_entries d))
    (All-map (IsProper limits) outlined_entry (entries d) (All-weaker (IsProper limits) (λ (e : Entry). IsProper limits (outlined_entry e))
    (proper limits) (entries d) all))

pub outlines_are_sound : OutlinesAreSound
outlines_are_sound v sound = record {
  starts = starts_outlined v.directories sound.starts;
  order = all_rise_outlined v.directories sound.order;
  proper =
      All-map (λ (d : Directory). All (IsProper v.limits) (entries d)) outlined_directory v.directories
      (All-weaker (λ (d : Directory). All (IsProper v.limits) (entries d))
      (λ (d : Directory). All (IsProper v.limits) (entries (outlined_directory d)))
      (proper_in v.limits) v.directories sound.proper);
  root_attributes = sound.root_attributes;
  once = λ b. omega (arith, outlined_uses b v, sound.once b);
  within = λ b used. sound.within b (omega (arith, outlined_uses b v, used));
  names = λ k. outlined_named k v ∙ sound.names k ∙ sym (outlined_begins k v);
  reached =
      All-map (λ (d : Directory). Reached (outlined v) (key d)) outlined_directory v.directories
      (All-weaker (λ (d : Directory). Reached v (key d)) (λ (d : Directory). Reached (outlined v) (key d))
      (λ d. outlined_reached v (key d)) v.directories sound.reached);
  settled = outlined_delta v ∙ sound.settled;
}
