-- Rows as they are copied, one after another.
use Rattle.std.proofs.Common.{◌≡◌, List, [], ◌∷◌, ◌++◌, map, refl, sym, ap, subst, ◌∙◌, append_assoc, append-nil}
use Rattle.std.specs.Prelude.{All}
use Rattle.std.proofs.lemmas.List.Elements.{All-head, All-tail}
use Rattle.lfs_fs.specs.Limits.{most_held}
use Rattle.lfs_block.specs.Disk.{Disk}
use Rattle.lfs_fs.specs.Entry.{Entry}
use Rattle.lfs_fs.specs.Listed.{Listed, path_after, row_after, rows_after}
use Rattle.lfs_fs.specs.Path.{Path}
use Rattle.lfs_fs.specs.Row.{Row}
use Rattle.lfs_fs.specs.RowShown.{HasBlocks}
use Rattle.lfs_pack.specs.RowText.{RowText, shown_text}

-- what an entry shows at a path
pub same_shown : (d : Disk) (e : Entry) (p q : Path) → p ≡ q
    → shown_text most_held d (record { path = p; entry = e }) ≡ shown_text most_held d (record { path = q; entry = e })
same_shown d e p q same = ap (λ (r : Path). shown_text most_held d (record { path = r; entry = e })) same

-- some rows are copied, and these are left
pub record AreLeft (d : Disk) (copied : List RowText) (left complete : List Row) : Type 0 where
  pub all : copied ++ map (shown_text most_held d) left ≡ map (shown_text most_held d) complete
  pub blocks : All (λ (r : Row). HasBlocks d r.entry.body) left

pub all_left : (d : Disk) (rows : List Row) → All (λ (r : Row). HasBlocks d r.entry.body) rows → AreLeft d [] rows rows
all_left d rows blocks = record { all = refl; blocks = blocks }

module _ (d : Disk) (copied : List RowText) (q : Path) (left later : List Listed) (x : Listed) (complete : List Row)
    (h : AreLeft d copied (rows_after q left) complete) (first : left ≡ x ∷ later) where
  abbrev next : List Row
  next = rows_after (path_after q x.depth x.entry.name) later

  here : AreLeft d copied (row_after q x ∷ next) complete
  here = subst (λ (xs : List Listed). AreLeft d copied (rows_after q xs) complete) first h

  pub has_blocks : HasBlocks d x.entry.body
  has_blocks = All-head (λ (r : Row). HasBlocks d r.entry.body) (row_after q x) next here.blocks

  -- one more is copied
  pub one_more : AreLeft d (copied ++ shown_text most_held d (row_after q x) ∷ []) next complete
  one_more = record {
    all = append_assoc copied (shown_text most_held d (row_after q x) ∷ []) (map (shown_text most_held d) next) ∙ here.all;
    blocks = All-tail (λ (r : Row). HasBlocks d r.entry.body) (row_after q x) next here.blocks;
  }

pub all_copied : (d : Disk) (copied : List RowText) (q : Path) (left : List Listed) (complete : List Row)
    → AreLeft d copied (rows_after q left) complete → left ≡ [] → copied ≡ map (shown_text most_held d) complete
all_copied d copied q left complete h none =
    let here : AreLeft d copied [] complete = subst (λ (xs : List Listed). AreLeft d copied (rows_after q xs) complete) none h in
    sym (append-nil copied) ∙ here.all
