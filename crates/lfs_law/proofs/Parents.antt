-- Where the last name of a path belongs to, where no check refuses.
use Rattle.std.proofs.Common.{◌≡◌, not, Bool, true, false, List, [], ◌∷◌, ◌++◌, refl, ap, sym, subst, append_assoc, append-nil, length, Option}
use Rattle.std.proofs.Common.{Some, None}
use Rattle.std.specs.Prelude.{All}
use Rattle.std.specs.Option.{option_map}
use Rattle.std.proofs.lemmas.Option.{same_Some}
use Rattle.std.proofs.lemmas.List.Elements.{All-head, All-tail}
use Rattle.lfs_meta.specs.Name.{Name, IsName}
use Rattle.lfs_meta.specs.Attribute.{Attributes}
use Rattle.lfs_meta.specs.Body.{Pair}
use Rattle.lfs_fs.specs.Path.{Path}
use Rattle.lfs_fs.specs.Pair.{unordered}
use Rattle.lfs_fs.specs.Entry.{Body, Inline, Chain, Directory_at, Entry, body_target, target}
use Rattle.lfs_fs.specs.Volume.{Volume}
use Rattle.lfs_fs.specs.Tree.{Node, File, Dir, entry_at, node, node_of, tree}
use Rattle.lfs_command.specs.declared.refusal.Refusal.{Refusal}
use Rattle.lfs_command.specs.Parent.{split_last, behind_name, parent_of}
use Rattle.lfs_command.specs.Verdict.{refuse_if, first_refusal, walk_refusal_at, walk_refusal, is_root, last_length}

-- ---- checks that don't refuse

pub first_passes : (a : Option Refusal) (rs : List (Option Refusal)) → first_refusal (a ∷ rs) ≡ None
    → (a ≡ None) × (first_refusal rs ≡ None)
first_passes None rs h = (refl, h)
first_passes (Some r) rs h = cc

pub test_passes : (t : Bool) (r : Refusal) → refuse_if t r ≡ None → t ≡ false
test_passes false r h = refl
test_passes true r h = cc

pub not_false : (t : Bool) → not t ≡ false → t ≡ true
not_false true h = refl
not_false false h = cc

-- ---- walks

-- a directory is there
abbrev pub IsDirectory : Option Node → Type 0
IsDirectory here = (a : Attributes) × (here ≡ Some (Dir a))

walk_at_passes : (here : Option Node) (rest : Option Refusal) → walk_refusal_at here rest ≡ None → IsDirectory here × (rest ≡ None)
walk_at_passes None rest h = cc
walk_at_passes (Some (File bytes a)) rest h = cc
walk_at_passes (Some (Dir a)) rest h = ((a, refl), h)

-- where the walk doesn't refuse, all but the last name lead to a directory
walk_passes : (at : Path → Option Node) (front q : Path) (n : Name) → walk_refusal at front (q ++ n ∷ []) ≡ None
    → IsDirectory (at (front ++ q))
walk_passes at front [] n h = subst (λ p. IsDirectory (at p)) (sym (append-nil front))
    (walk_at_passes (at front) (walk_refusal at (front ++ n ∷ []) []) h).0
walk_passes at front (m ∷ q) n h =
    let later = walk_passes at (front ++ m ∷ []) q n (walk_at_passes (at front) (walk_refusal at (front ++ m ∷ []) (q ++ n ∷ [])) h).1 in
    subst (λ p. IsDirectory (at p)) (append_assoc front (m ∷ []) q) later

-- ---- splits

-- a path of a front and a last name
pub record Splits (p : Path) : Type 0 where
  pub front : Path
  pub name : Name
  pub split : split_last p ≡ Some (front, name)
  pub complete : p ≡ front ++ name ∷ []

splits : (n : Name) (ns : Path) → Splits (n ∷ ns)
splits n [] = record { front = []; name = n; split = refl; complete = refl }
splits n (m ∷ ns) =
    let later : Splits (m ∷ ns) = splits m ns in
    record { front = n ∷ later.front; name = later.name; split = ap (behind_name n) later.split; complete = ap (λ x. n ∷ x) later.complete }

pub path_splits : (p : Path) → is_root p ≡ false → Splits p
path_splits [] h = cc
path_splits (n ∷ ns) h = splits n ns

last_is_name : (front : Path) (n : Name) → All IsName (front ++ n ∷ []) → IsName n
last_is_name [] n h = All-head IsName n [] h
last_is_name (m ∷ front) n h = last_is_name front n (All-tail IsName m (front ++ n ∷ []) h)

-- ---- parents

-- an entry that shows a directory leads to one
leads_by : (b : Body) (a c : Attributes) → node_of b a ≡ Dir c → (k : Pair) × (body_target b ≡ Some k)
leads_by (Inline bytes) a c h = cc
leads_by (Chain blocks bytes) a c h = cc
leads_by (Directory_at pair) a c h = (unordered pair, refl)

pub directory_leads : (v : Volume) (p : Path) → IsDirectory (tree v p)
    → (e : Entry) × (k : Pair) × (entry_at v p ≡ Some e) × (target e ≡ Some k)
directory_leads v p h = by (entry_at v p) refl h.1
  where
    by : (o : Option Entry) → entry_at v p ≡ o → option_map node o ≡ Some (Dir h.0)
        → (e : Entry) × (k : Pair) × (entry_at v p ≡ Some e) × (target e ≡ Some k)
    by None is shows = cc
    by (Some e) is shows = let leads = leads_by e.body e.attributes h.0 (same_Some (node e) (Dir h.0) shows) in (e, leads.0, is, leads.1)

-- The parent of a path: its front leads to a directory, and its last name is a name.
pub record HasParent (v : Volume) (p : Path) : Type 0 where
  pub front : Path
  pub name : Name
  pub complete : p ≡ front ++ name ∷ []
  pub above : Entry
  pub at : entry_at v front ≡ Some above
  pub pair : Pair
  pub leads : target above ≡ Some pair
  pub parent : parent_of v p ≡ Some (pair, name)
  pub named : IsName name
  pub len : last_length p ≡ length name

pub has_parent : (v : Volume) (p : Path) → All IsName p → is_root p ≡ false → walk_refusal (tree v) [] p ≡ None → HasParent v p
has_parent v p names below walk =
    let s = path_splits p below in
    let above = directory_leads v s.front (walk_passes (tree v) [] s.front s.name
    (subst (λ x. walk_refusal (tree v) [] x ≡ None) s.complete walk)) in
    record {
      front = s.front;
      name = s.name;
      complete = s.complete;
      above = above.0;
      at = above.2;
      pair = above.1;
      leads = above.3;
      parent = rw (s.split, above.2, above.3) refl;
      named = last_is_name s.front s.name (subst (All IsName) s.complete names);
      len = rw s.split refl;
    }
