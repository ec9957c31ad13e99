-- What the code's rows lead to, as an image.
use Rattle.std.proofs.Common.{◌≡◌, ℕ, List, [], ◌∷◌, ◌++◌, ap, sym, ◌∙◌, subst, inl, inr}
use Rattle.std.proofs.lemmas.Grind.{flat_map-append}
use Rattle.std.proofs.lemmas.List.Concat.{flat_map-cons}
use Rattle.lfs_block.specs.Disk.{Disk, IsDisk}
use Rattle.lfs_fs.specs.declared.limits.Limits.{Limits}
use Rattle.lfs_fs.specs.Formatted.{empty_volume}
use Rattle.lfs_fs.specs.Holds.{Holds}
use Rattle.lfs_fs.specs.Path.{TextsSpellOnePath}
use Rattle.lfs_fs.specs.Reading.{reading_of}
use Rattle.lfs_fs.specs.Volume.{Volume}
use Rattle.lfs_command.specs.declared.refusal.Refusal.{Refusal}
use Rattle.lfs_command.specs.declared.refusal.Refusal.TheVariants.{Memory}
use Rattle.lfs_command.specs.Command.{Command}
use Rattle.lfs_law.proofs.CarriedFollow.{CarriedFollow}
use Rattle.lfs_edit.specs.Formatted.{disk_with}
use Rattle.lfs_pack.specs.NewImages.{AllAreLaid, AreFilled}
use Rattle.lfs_pack.specs.Lead.{Lead}
use Rattle.lfs_pack.specs.declared.new_image.NewImage.{NewImage}
use Rattle.lfs_pack.specs.declared.pack_row.PackRow.{PackRow}
use Rattle.lfs_pack.specs.Laws.{LedToTheirMap}
use Rattle.lfs_pack.specs.Finished.{AreErasedBeside, IsNewImageOf}
use Rattle.lfs_pack.specs.Packed.{AreRowsOf, Packed, commands, row_commands}
use Rattle.lfs_pack.specs.Packing.{IsNotPacked, IsPacked, RefusesPack, RefusesRow}
use Rattle.lfs_pack.specs.RowsCarried.{AddsRows, IsAtWork, PacksRows, RefusesRows}
use Rattle.lfs_pack.specs.Stopped.{AreStopped, IsRowStopped}
use Rattle.lfs_pack.proofs.CountsKept.{kept, rows_keep}
use Rattle.lfs_pack.proofs.LedOn.{stopped_first, stopped_then}
use Rattle.lfs_pack.proofs.RowsInTurn.{from_first}
use Rattle.lfs_pack.proofs.RowsSpelled.{same_rows}

-- ---- refusals

refuses_row : (size count : ℕ) (limits : Limits) (what : List Packed) (at : ℕ) (r : Refusal)
    → IsRowStopped what (empty_volume size count limits []) at r → RefusesRow size count limits what at r
refuses_row size count limits what at Memory stop = tt
refuses_row size count limits what at _ stop = stop

refuses_pack : (size count : ℕ) (limits : Limits) (what : List Packed) (r : Refusal) → IsNotPacked size count limits what r → RefusesPack size count limits what r
refuses_pack size count limits what Memory stop = tt
refuses_pack size count limits what _ stop = stop

stopped : (size count : ℕ) (limits : Limits) (what : List Packed) (r : Refusal) → AreStopped (commands what) (empty_volume size count limits []) r
    → RefusesPack size count limits what r
stopped size count limits what r stop = refuses_pack size count limits what r (record {
  done = stop.done;
  next = stop.next;
  later = stop.later;
  are = stop.are;
  volume = stop.volume;
  led = stop.led;
  refused = stop.refused;
})

-- a row is refused by one of its commands, behind those of the rows before it
row_stopped : (rows : List Packed) (v : Volume) (at : ℕ) (r : Refusal) → IsRowStopped rows v at r → AreStopped (commands rows) v r
row_stopped rows v at r stop =
    let all : commands rows ≡ commands stop.before ++ (row_commands stop.row ++ commands stop.later) =
    ap commands stop.are ∙ flat_map-append row_commands stop.before (stop.row ∷ stop.later)
    ∙ ap (λ (cs : List Command). commands stop.before ++ cs) (flat_map-cons row_commands stop.row stop.later) in
    subst (λ (cs : List Command). AreStopped cs v r) (sym all)
    (stopped_then (commands stop.before) (row_commands stop.row ++ commands stop.later) v stop.volume r stop.led
    (stopped_first (row_commands stop.row) (commands stop.later) stop.volume r stop.stopped))

-- where a row is refused, the rows aren't packed
pub not_packed : (size count : ℕ) (limits : Limits) (what : List Packed) (at : ℕ) (r : Refusal) → RefusesRow size count limits what at r
    → RefusesPack size count limits what r
not_packed size count limits what at Memory stop = tt
not_packed size count limits what at r stop =
    stopped size count limits what r (row_stopped what (empty_volume size count limits []) at r stop)

-- ---- rows are added to a new image

pub rows_packed : TextsSpellOnePath → (size count : ℕ) (limits : Limits) (rows : List PackRow) (t u : NewImage)
    → IsAtWork t (empty_volume size count limits []) → AddsRows rows t u → PacksRows size count limits rows u
rows_packed texts size count limits rows t u work adds =
    let all = adds (empty_volume size count limits []) work in
    record {
      is = (all.2, all.4);
      led = λ packed are. (
        all.2,
        subst (λ (l : List Packed). Lead (commands l) (empty_volume size count limits []) all.2)
            (same_rows texts rows all.0 packed all.1 are.each) all.3,
        all.4,
      );
    }

pub rows_refused : (size count : ℕ) (limits : Limits) (rows : List PackRow) (t : NewImage) (at : ℕ) (r : Refusal)
    → IsAtWork t (empty_volume size count limits []) → RefusesRows rows t 0 at r
    → (what : List Packed) → AreRowsOf rows what → RefusesRow size count limits what at r
rows_refused size count limits rows t at r work (inl memory) what are =
    subst (λ (x : Refusal). RefusesRow size count limits what at x) (sym memory) tt
rows_refused size count limits rows t at r work (inr refuses) what are =
    refuses_row size count limits what at r
    (from_first what (empty_volume size count limits []) at r (refuses (empty_volume size count limits []) what work are.each))

-- ---- the image

same_disk : (size count : ℕ) (d : Disk) → d.size ≡ size → d.count ≡ count → disk_with size count d.bytes ≡ d
same_disk size count d is_size is_count =
    sym (ap (λ (n : ℕ). disk_with n d.count d.bytes) is_size ∙ ap (λ (n : ℕ). disk_with size n d.bytes) is_count)

pub packed : CarriedFollow → LedToTheirMap → (size count : ℕ) (limits : Limits) (rows : List PackRow) (t : NewImage) (d : Disk)
    → PacksRows size count limits rows t → IsDisk d → ((v : Volume) → IsAtWork t v → IsNewImageOf v d)
    → (what : List Packed) → AreRowsOf rows what → IsPacked size count limits what d.bytes
packed follow map_of size count limits rows t d packs disk finished what are =
    let to = packs.led what are in
    let done = finished to.0 to.2 in
    let keeps = kept follow (commands what) (empty_volume size count limits []) to.0 (rows_keep what) to.1 in
    let same : d ≡ disk_with size count d.bytes = sym (same_disk size count d (sym done.size ∙ keeps.0) (sym done.count ∙ keeps.1)) in
    record {
      disk = subst IsDisk same disk;
      volume = to.0;
      holds = subst (λ (x : Disk). Holds (reading_of x) to.0) same done.holds;
      sound = done.sound;
      limited = keeps.2;
      led = to.1;
      at = map_of size count limits what to.0 are.packable to.1;
      filled = subst (λ (x : Disk). AreFilled x to.0) same done.filled;
      laid = subst (λ (x : Disk). AllAreLaid x to.0) same done.laid;
      erased = subst (AreErasedBeside to.0) same done.erased;
    }
