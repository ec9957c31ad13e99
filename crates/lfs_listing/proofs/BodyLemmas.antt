-- Bytes of an entry beside a chain's.
use Rattle.std.proofs.Common.{◌≡◌, ℕ, Bool, List, Some, Bor, ap, sym, ◌∙◌}
use Rattle.std.specs.Prelude.{bytes_eq}
use Rattle.std.proofs.lemmas.List.{length-replicate}
use Rattle.lfs_block.specs.Disk.{Disk}
use Rattle.lfs_file.specs.Content.{content}
use Rattle.lfs_fs.specs.RowHeld.{row_body_held}
use Rattle.lfs_fs.specs.declared.row_body.RowBody.{RowBody}
use Rattle.lfs_fs.specs.declared.row_body.RowBody.TheVariants as case
use Rattle.lfs_listing.specs.Comparing.{contents_of, same_contents}
use Rattle.lfs_listing.proofs.ReadingLemmas.{swapped}

-- they are the chain's beside them
pub bytes_beside : (same : Bool) (on : Disk × Disk) (d e : Disk) (x y : RowBody) (bytes blocks : Bor (List ℕ)) (size : ℕ) → (d, e) ≡ on
    → x ≡ case.Inline bytes → y ≡ case.Chain blocks size → same ≡ bytes_eq (content e size blocks.now) bytes.now
    → same ≡ same_contents (contents_of on.0 (row_body_held x)) (contents_of on.1 (row_body_held y))
bytes_beside same on d e x y bytes blocks size is first second test =
    test ∙ swapped (content e size blocks.now) bytes.now
    ∙ ap (λ (n : ℕ). bytes_eq bytes.now (content e n blocks.now)) (sym (length-replicate size 0))
    ∙ ap (λ (p : Disk × Disk). same_contents (Some bytes.now) (contents_of p.1 (row_body_held (case.Chain blocks size)))) is
    ∙ ap (λ (b : RowBody). same_contents (Some bytes.now) (contents_of on.1 (row_body_held b))) (sym second)
    ∙ ap (λ (b : RowBody). same_contents (contents_of on.0 (row_body_held b)) (contents_of on.1 (row_body_held y))) (sym first)
