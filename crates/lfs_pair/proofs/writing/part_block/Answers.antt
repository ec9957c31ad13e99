-- Beside an erased block the new one is live, and its tags are the part.
use Rattle.std.proofs.Common.{◌≡◌, ◌∙◌, List, None, Result, Ok, Err, ap, arith, replicate, subst, sym}
use Rattle.std.specs.Prelude.{All, length}
use Rattle.std.specs.Result.{IfOk}
use Rattle.lfs_meta.specs.Body.{Pair}
use Rattle.lfs_meta.specs.Entry.{StoredEntry}
use Rattle.lfs_meta.specs.Fits.{EntryFits}
use Rattle.lfs_meta.specs.LiveBlock.{committed}
use Rattle.lfs_meta.specs.Part.{StoredPart}
use Rattle.lfs_pair.specs.Spelling.{part_tags}
use Rattle.lfs_pair.specs.Writing.{IsWritten, stored_part}
use Rattle.lfs_pair.proofs.LiveAfter.{live_after, live_before, read-back}
use Rattle.lfs_pair.proofs.LogLemmas.{erased-uncommitted}
use Rattle.lfs_pair.proofs.writing.part_block.Goals as goal

-- two facts of one result
if_ok_both : {X Y : Type 0} (r : Result X Y) {P Q R : X → Type 0} → ((x : X) → P x → Q x → R x) → IfOk r P → IfOk r Q → IfOk r R
if_ok_both (Ok x) f p q = f x p q
if_ok_both (Err y) f p q = tt

pub returns : goal.returns
returns c =
    let p : StoredPart = c.args.part.now.1 in
    let none : committed (replicate c.args.size 0xff) ≡ None =
    erased-uncommitted c.erased_block.ensures c.log_is_read.ensures c.args.size (omega (arith, c.requires.size.0)) in
    let twelve : length p.delta ≡ 12 = ap (λ (x : Pair × StoredPart). length x.1.delta) (sym c.part.view_is) ∙ c.written.ensures.twelve in
    let entries : c.deref.result.now ≡ p.entries = c.deref.ensures.value ∙ ap (λ (x : Pair × StoredPart). x.1.entries) c.part.view_is in
    let part : stored_part c.deref.result.now c.part.inside.tail c.part.inside.delta ≡ p =
    ap (λ (es : List StoredEntry). stored_part es c.part.inside.tail c.part.inside.delta) c.deref.ensures.value
    ∙ ap (λ (x : Pair × StoredPart). x.1) c.part.view_is in
    if_ok_both c.written.result (λ block written fits.
    let is : IsWritten c.args.size c.args.number (part_tags p) block.items =
    subst (λ (q : StoredPart). IsWritten c.args.size c.args.number (part_tags q) block.items) part written in
    let all : All EntryFits p.entries = subst (All EntryFits) entries fits in
    record {
      bytes = is.bytes;
      len = is.len;
      before_erased =
          read-back c.written_parts_replay.ensures.replay c.written_parts_replay.ensures.complete p block.items (replicate c.args.size 255)
          all c.requires.few c.requires.tail twelve c.requires.complete
          (live_before block.items (replicate c.args.size 255) (part_tags p) is.held none);
      behind_erased =
          read-back c.written_parts_replay.ensures.replay c.written_parts_replay.ensures.complete p (replicate c.args.size 255) block.items
          all c.requires.few c.requires.tail twelve c.requires.complete
          (live_after block.items (replicate c.args.size 255) (part_tags p) is.held none);
    }) c.written.ensures.written c.written.ensures.fits
