-- Entries of an outline with one put among them.
use Rattle.std.proofs.Common.{◌≡◌, Bool, true, false, not, List, [], ◌∷◌, refl, ap, ◌∙◌}
use Rattle.std.specs.Prelude.{insert, if◌then◌else◌}
use Rattle.std.specs.List.{prefix_len}
use Rattle.lfs_fs.specs.Entry.{Entry}
use Rattle.lfs_fs.specs.NameOrder.{precedes}
use Rattle.lfs_command.specs.EntryEdit.{place}
use Rattle.lfs_law.proofs.ChangesAt.{insert_first, insert_later}

-- it goes behind the entries that have no greater name
pub insert_placed : (e : Entry) (es : List Entry) → insert es (prefix_len (λ f. not (precedes e.name f.name)) es) e ≡ place e es
unfolding place
insert_placed e [] = refl
insert_placed e (f ∷ fs) = by (precedes e.name f.name) refl (insert_placed e fs)
  where
    stays : Entry → Bool
    stays g = not (precedes e.name g.name)

    by : (t : Bool) → precedes e.name f.name ≡ t → insert fs (prefix_len stays fs) e ≡ place e fs
        → insert (f ∷ fs) (prefix_len stays (f ∷ fs)) e ≡ (if t then e ∷ f ∷ fs else f ∷ place e fs)
    by true is later = insert_first stays f e fs (ap not is)
    by false is later = insert_later stays f e fs (ap not is) ∙ ap (λ (es : List Entry). f ∷ es) later
