-- The outline of a volume whose parts aren't written yet can be written, and the image holds it then.
use Rattle.std.proofs.Common.{◌<◌, ℕ, ap, sym, ◌∙◌, subst, arith}
use Rattle.std.specs.Prelude.{All, replicate}
use Rattle.std.proofs.lemmas.List.{length-map}
use Rattle.std.proofs.lemmas.List.Elements.{All-map, All-weaker}
use Rattle.lfs_block.specs.Disk.{Disk}
use Rattle.lfs_fs.specs.Directory.{Part, thread}
use Rattle.lfs_fs.specs.Outlined.{outlined, outlined_entry, outlined_part}
use Rattle.lfs_fs.specs.SoundOutlines.{OutlinesAreSound}
use Rattle.lfs_fs.specs.Volume.{Volume}
use Rattle.lfs_fs.specs.Weight.{weight}
use Rattle.lfs_law.proofs.OutlineDirectories.{thread_outlined}
use Rattle.lfs_law.proofs.OutlineEntries.{weight_same}
use Rattle.lfs_law.proofs.OutlineRoom.{sum_over}
use Rattle.lfs_pack.specs.NewImages.{HoldsNew, NewImagesHold}
use Rattle.lfs_pack.specs.OutlinesTaken.{FitsNewPair, SoundOutlinesCanBeTaken}
use Rattle.lfs_pack.specs.Unwritten.{UnwrittenCanBeFinished}

-- a part's outline has as many entries, of the same weight
outline_fits : (d : Disk) (v : Volume) (p : Part) → FitsNewPair d v p → FitsNewPair d (outlined v) (outlined_part p)
outline_fits d v p fits = record {
  few = omega (arith, fits.few, length-map p.entries outlined_entry);
  light = omega (arith, fits.light, sum_over weight weight outlined_entry weight_same p.entries);
  none = fits.none;
  erased = fits.erased;
}

-- each part fits its new pair, and the contents of the files are there
pub unwritten_can_be_finished : OutlinesAreSound → SoundOutlinesCanBeTaken → NewImagesHold → UnwrittenCanBeFinished
unwritten_can_be_finished sound taken hold d v work = record {
  can = taken d (outlined v) work.disk (sound v work.holdable.sound) work.size work.count
      (subst (All (FitsNewPair d (outlined v))) (sym (thread_outlined v.directories))
      (All-map (FitsNewPair d (outlined v)) outlined_part (thread v.directories)
      (All-weaker (FitsNewPair d v) (λ (p : Part). FitsNewPair d (outlined v) (outlined_part p)) (outline_fits d v) (thread v.directories)
      work.fit)));
  finished = λ e outline.
      let new : HoldsNew d e v = hold d e v (record {
        disk = work.disk;
        sound = work.holdable.sound;
        clean = work.holdable.clean;
        size = work.size;
        count = work.count;
        limits = work.holdable.limits;
        there = work.there;
        outline = outline;
      }) in
      record {
        holds = new.holds;
        sound = work.holdable.sound;
        size = work.size ∙ sym outline.but.disk.size;
        count = work.count ∙ sym outline.but.disk.count;
        filled = new.filled;
        laid = new.contents work.laid;
        erased = λ b lt none.
            let below : b < d.count = omega (arith, lt, outline.but.disk.count) in
            new.others b none ∙ work.erased b below none ∙ ap (λ (n : ℕ). replicate n 0xff) (sym outline.but.disk.size);
      };
}
