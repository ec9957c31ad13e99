-- What is packed of an image that was opened.
use Rattle.std.proofs.Common.{◌≡◌, ℕ, List, Option, ap, subst, ◌∙◌, map, inl, inr}
use Rattle.lfs_fs.specs.declared.limits.Limits.{Limits}
use Rattle.lfs_exchange.specs.Handing.{most_image}
use Rattle.lfs_host.specs.Files.{Files, ReadsFrom}
use Rattle.lfs_host.specs.Scene.{Scene}
use Rattle.lfs_pack.specs.declared.pack_row.PackRow.{PackRow}
use Rattle.lfs_pack.specs.RowText.{pack_text, source_text}
use Rattle.lfs_request.specs.declared.fault.Fault.{Fault}
use Rattle.lfs_request.specs.SaidLimits.{limits_or}
use Rattle.lfs_request.specs.View.{start_of}
use Rattle.lfs_request.specs.declared.extent.Extent.{Extent}
use Rattle.lfs_request.specs.declared.said_limits.SaidLimits.{SaidLimits}
use Rattle.lfs_request.specs.declared.source_image.SourceImage.{SourceImage}
use Rattle.lfs_open.specs.Opened.{IsSourceOpened}
use Rattle.lfs_open.specs.Repacking.{IsExtentFor, PacksSource, ReadsSource, RefusesSource}
use Rattle.lfs_open.specs.declared.opened.Opened.{Opened}

-- the rows of its copies, with the limits that are said, and the others that it has
pub packs : (source : SourceImage) (extent : Option Extent) (said : SaidLimits) (most size : ℕ) (files : Option Files) (count : ℕ) (limits : Limits)
    (rows : List PackRow) (o : Opened) → IsSourceOpened source files o → map pack_text rows ≡ map (source_text most) o.rows.items
    → limits ≡ limits_or said o.limits → IsExtentFor o.len size limits rows extent count
    → PacksSource source extent said most size files count limits rows
packs source extent said most size files count limits rows o (image, reads, is) texts limits_are counts = record {
  image = image;
  reads = reads;
  disk = is.disk;
  mounted = is.mounted;
  mount = is.mount;
  rows_are = is.copies most rows texts;
  limits_are = limits_are ∙ ap (limits_or said) is.limits_are;
  count_is = subst (λ (len : ℕ). IsExtentFor len size limits rows extent count) is.len_is counts;
}

-- what was opened, or refused, of a host whose files are the same
pub opened_from : (source : SourceImage) (mid old : Option Files) (o : Opened) → mid ≡ old → IsSourceOpened source mid o → IsSourceOpened source old o
opened_from source mid old o same is = subst (λ (f : Option Files). IsSourceOpened source f o) same is

pub refused_from : (source : SourceImage) (mid old new : Scene) (why : Fault) → mid.files ≡ old.files → RefusesSource source mid new why
    → RefusesSource source old new why
refused_from source mid old new why same (inl unread) = inl unread
refused_from source mid old new why same (inr (inl (bytes, reads, later))) =
    inr (inl (bytes, subst (λ (f : Option Files). ReadsFrom f source.file.now (start_of source.manner.view) most_image bytes) same reads, later))
refused_from source mid old new why same (inr (inr (image, reads, judged))) =
    inr (inr (image, subst (λ (f : Option Files). ReadsSource source f image) same reads, judged))
