-- An entry put into a directory of a volume, taken out of it, or changed in it: what stands under each name, the effect, order and
-- limits.
use Rattle.std.proofs.Common.{◌≡◌, ℕ, ◌+◌, List, [], refl, ap, sym, ◌∙◌, subst, arith, Option, Some, None}
use Rattle.std.specs.Prelude.{All, not, sum_by, count_by, find, bytes_eq}
use Rattle.std.specs.Option.{option_map, unwrap_or}
use Rattle.std.proofs.lemmas.List.Elements.{All-filter}
use Rattle.lfs_meta.specs.Name.{Name}
use Rattle.lfs_meta.specs.Body.{Pair}
use Rattle.lfs_fs.specs.declared.limits.Limits.{Limits}
use Rattle.lfs_fs.specs.NameOrder.{NamesAreOrdered}
use Rattle.lfs_fs.specs.Entry.{Entry, is_named, target}
use Rattle.lfs_fs.specs.Directory.{Directory, entries, begins_at}
use Rattle.lfs_fs.specs.Tree.{entry_in}
use Rattle.lfs_fs.specs.Uses.{entry_uses, pair_uses}
use Rattle.lfs_fs.specs.Named.{leads_to}
use Rattle.lfs_fs.specs.Sound.{Rise, IsProper}
use Rattle.lfs_command.specs.EntryEdit.{place}
use Rattle.lfs_command.specs.DirectoryEdit.{link_in, unlink_in, change_in, emptied_in}
use Rattle.lfs_command.specs.ThreadEdit.{link, unlink, change}
use Rattle.lfs_command.specs.Freed.{emptied_among}
use Rattle.lfs_law.proofs.Effect.{none, of_entry, with_parts, Effect, AreGood}
use Rattle.lfs_law.proofs.OneElement.{found_one, found_has, sum_where, sum_others, find_where, find_where_other, find_others}
use Rattle.lfs_law.proofs.OneElement.{find_others_other, All-where, All-where_one}
use Rattle.lfs_law.proofs.EntryEdits.{has_its_name, has_other_name, sum_place, find_place, find_place_other, All-place, Rise-place}
use Rattle.lfs_law.proofs.EntryEdits.{once_named, Rise-without, KeepsName, Rise-changed}
use Rattle.lfs_law.proofs.DirectoryEdits.{entries_link, keeps_link, first_link, entries_unlink, keeps_unlink, uses_unlink, entries_change}
use Rattle.lfs_law.proofs.DirectoryEdits.{keeps_change, first_change, pair_uses_same}
use Rattle.lfs_law.proofs.InDirectory.{entry_of, find_here, other_edges, effect_in}

-- what is found in the directory that is found
entry_there : (k : Pair) (n : Name) (ds : List Directory) (d : Directory) (o : Option Entry) → find (begins_at k) ds ≡ Some d
    → entry_in ds k n ≡ o → find (is_named n) (entries d) ≡ o
entry_there k n ds d o found is = ap (entry_of n) (sym found) ∙ is

-- ---- an entry put in

pub link_edge : (k : Pair) (e : Entry) (ds : List Directory) → count_by (begins_at k) ds ≡ 1 → entry_in ds k e.name ≡ None
    → entry_in (link k e ds) k e.name ≡ Some e
link_edge k e ds once fresh =
    let found = found_one (begins_at k) ds once in
    let there : find (is_named e.name) (place e (entries found.0)) ≡ Some e =
    find_place (is_named e.name) e (entries found.0) (has_its_name e) (entry_there k e.name ds found.0 None found.1 fresh) in
    ap (entry_of e.name) (find_here k (link_in e) ds (first_link e) ∙ ap (option_map (link_in e)) found.1)
    ∙ ap (find (is_named e.name)) (entries_link e found.0) ∙ there

pub link_other : (k : Pair) (e : Entry) (ds : List Directory) (j : Pair) (m : Name) → ((j ≡ k) × (m ≡ e.name) → ⊥)
    → entry_in (link k e ds) j m ≡ entry_in ds j m
link_other k e ds =
    other_edges k e.name (link_in e) ds (first_link e)
    (λ m differ d. ap (find (is_named m)) (entries_link e d) ∙ find_place_other (is_named m) e (entries d)
    (has_other_name m e.name differ e (has_its_name e)))

pub link_effect : (k : Pair) (e : Entry) (ds : List Directory) → count_by (begins_at k) ds ≡ 1 → Effect none (of_entry e) ds (link k e ds)
link_effect k e ds once =
    let found = found_one (begins_at k) ds once in
    let sum : (g : Entry → ℕ) → sum_by g (entries (link_in e found.0)) + 0 ≡ sum_by g (entries found.0) + g e =
    λ g. omega (arith, ap (sum_by g) (entries_link e found.0), sum_place g e (entries found.0)) in
    effect_in none (of_entry e) k (link_in e) ds found.0 (first_link e) found.1 once
    (λ b. omega (arith, sum (entry_uses b), pair_uses_same b found.0 (link_in e found.0) (keeps_link e found.0).pairs))
    (λ j. sum (λ (x : Entry). leads_to j (target x))) (λ j. refl)

pub link_good : (limits : Limits) (k : Pair) (e : Entry) (ds : List Directory) → NamesAreOrdered → AreGood limits ds
    → count_by (begins_at k) ds ≡ 1 → entry_in ds k e.name ≡ None → IsProper limits e
    → AreGood limits (link k e ds)
link_good limits k e ds ordered good once fresh proper =
    let found = found_one (begins_at k) ds once in
    let not_there = entry_there k e.name ds found.0 None found.1 fresh in
    record {
      order = All-where_one (λ (d : Directory). Rise (entries d)) (begins_at k) (link_in e) ds found.0 found.1 once
          (λ rise. subst Rise (sym (entries_link e found.0)) (Rise-place e (entries found.0) ordered not_there rise)) good.order;
      proper = All-where_one (λ (d : Directory). All (IsProper limits) (entries d)) (begins_at k) (link_in e) ds found.0 found.1 once
          (λ all. subst (All (IsProper limits)) (sym (entries_link e found.0)) (All-place (IsProper limits) e (entries found.0) proper all))
          good.proper;
    }

-- ---- an entry taken out

no_entry : (n : Name) (o : Option Directory) → entry_of n (option_map (unlink_in n) o) ≡ None
no_entry n None = refl
no_entry n (Some d) = ap (find (is_named n)) (entries_unlink n d) ∙ find_others (is_named n) (entries d)

pub unlink_edge : (k : Pair) (n : Name) (ds : List Directory) → entry_in (unlink k n ds) k n ≡ None
unlink_edge k n ds = ap (entry_of n) (find_here k (unlink_in n) ds (keeps_unlink n)) ∙ no_entry n (find (begins_at k) ds)

pub unlink_other : (k : Pair) (n : Name) (ds : List Directory) (j : Pair) (m : Name) → ((j ≡ k) × (m ≡ n) → ⊥)
    → entry_in (unlink k n ds) j m ≡ entry_in ds j m
unlink_other k n ds =
    other_edges k n (unlink_in n) ds (keeps_unlink n)
    (λ m differ d. ap (find (is_named m)) (entries_unlink n d) ∙ find_others_other (is_named n) (is_named m) (entries d)
    (has_other_name m n differ))

-- the parts that leave the directory that is found
emptied_found : (ds : List Directory) (k : Pair) (n : Name) (d : Directory) → find (begins_at k) ds ≡ Some d
    → emptied_among ds k n ≡ emptied_in n d
emptied_found ds k n d found = ap (λ (o : Option Directory). unwrap_or (option_map (emptied_in n) o) []) found

pub unlink_effect : (limits : Limits) (k : Pair) (n : Name) (e : Entry) (ds : List Directory) → NamesAreOrdered → AreGood limits ds
    → count_by (begins_at k) ds ≡ 1 → entry_in ds k n ≡ Some e
    → Effect (with_parts e (emptied_among ds k n)) none ds (unlink k n ds)
unlink_effect limits k n e ds ordered good once is =
    let found = found_one (begins_at k) ds once in
    let there = entry_there k n ds found.0 (Some e) found.1 is in
    let one = once_named n (entries found.0) e ordered (found_has (λ (d : Directory). Rise (entries d))
    (begins_at k) ds found.0 found.1 good.order) there in
    let sum : (g : Entry → ℕ) → sum_by g (entries (unlink_in n found.0)) + g e ≡ sum_by g (entries found.0) + 0 =
    λ g. omega (arith, ap (sum_by g) (entries_unlink n found.0), sum_others g (is_named n) (entries found.0) e there one) in
    effect_in (with_parts e (emptied_among ds k n)) none k (unlink_in n) ds found.0 (keeps_unlink n) found.1 once
    (λ b. omega (arith, sum (entry_uses b), uses_unlink b n found.0, ap (sum_by (pair_uses b)) (emptied_found ds k n found.0 found.1)))
    (λ j. sum (λ (x : Entry). leads_to j (target x))) (λ j. refl)

pub unlink_good : (limits : Limits) (k : Pair) (n : Name) (ds : List Directory) → AreGood limits ds → AreGood limits (unlink k n ds)
unlink_good limits k n ds good = record {
  order = All-where (λ (d : Directory). Rise (entries d)) (begins_at k) (unlink_in n) ds
      (λ d is rise. subst Rise (sym (entries_unlink n d)) (Rise-without n (entries d) rise)) good.order;
  proper = All-where (λ (d : Directory). All (IsProper limits) (entries d)) (begins_at k) (unlink_in n) ds
      (λ d is all. subst (All (IsProper limits)) (sym (entries_unlink n d))
      (All-filter (λ e. not (is_named n e)) (IsProper limits) (entries d) all)) good.proper;
}

-- ---- an entry changed

changed_entry : (n : Name) (f : Entry → Entry) (o : Option Directory) (e : Entry) → KeepsName f → entry_of n o ≡ Some e
    → entry_of n (option_map (change_in n f) o) ≡ Some (f e)
changed_entry n f None e keeps is = cc
changed_entry n f (Some d) e keeps is =
    ap (find (is_named n)) (entries_change n f d)
    ∙ find_where (is_named n) f (entries d) (λ x named. ap (bytes_eq n) (keeps x) ∙ named)
    ∙ ap (option_map f) is

pub change_edge : (k : Pair) (n : Name) (f : Entry → Entry) (ds : List Directory) (e : Entry) → KeepsName f → entry_in ds k n ≡ Some e
    → entry_in (change k n f ds) k n ≡ Some (f e)
change_edge k n f ds e keeps is = ap (entry_of n) (find_here k (change_in n f) ds (first_change n f))
    ∙ changed_entry n f (find (begins_at k) ds) e keeps is

pub change_other : (k : Pair) (n : Name) (f : Entry → Entry) (ds : List Directory) → KeepsName f → (j : Pair) (m : Name)
    → ((j ≡ k) × (m ≡ n) → ⊥) → entry_in (change k n f ds) j m ≡ entry_in ds j m
change_other k n f ds keeps =
    other_edges k n (change_in n f) ds (first_change n f)
    (λ m differ d. ap (find (is_named m)) (entries_change n f d)
    ∙ find_where_other (is_named n) (is_named m) f (entries d) (λ x named. ap (bytes_eq m) (keeps x)) (has_other_name m n differ))

pub change_effect : (limits : Limits) (k : Pair) (n : Name) (f : Entry → Entry) (e : Entry) (ds : List Directory) → NamesAreOrdered
    → AreGood limits ds
    → count_by (begins_at k) ds ≡ 1 → entry_in ds k n ≡ Some e
    → Effect (of_entry e) (of_entry (f e)) ds (change k n f ds)
change_effect limits k n f e ds ordered good once is =
    let found = found_one (begins_at k) ds once in
    let there = entry_there k n ds found.0 (Some e) found.1 is in
    let one = once_named n (entries found.0) e ordered (found_has (λ (d : Directory). Rise (entries d))
    (begins_at k) ds found.0 found.1 good.order) there in
    let sum : (g : Entry → ℕ) → sum_by g (entries (change_in n f found.0)) + g e ≡ sum_by g (entries found.0) + g (f e) =
    λ g. omega (arith, ap (sum_by g) (entries_change n f found.0), sum_where g (is_named n) f (entries found.0) e there one) in
    effect_in (of_entry e) (of_entry (f e)) k (change_in n f) ds found.0 (first_change n f) found.1 once
    (λ b. omega (arith, sum (entry_uses b), pair_uses_same b found.0 (change_in n f found.0) (keeps_change n f found.0).pairs))
    (λ j. sum (λ (x : Entry). leads_to j (target x))) (λ j. refl)

pub change_good : (limits : Limits) (k : Pair) (n : Name) (f : Entry → Entry) (e : Entry) (ds : List Directory) → NamesAreOrdered
    → KeepsName f → AreGood limits ds → count_by (begins_at k) ds ≡ 1
    → entry_in ds k n ≡ Some e → IsProper limits (f e) → AreGood limits (change k n f ds)
change_good limits k n f e ds ordered keeps good once is proper =
    let found = found_one (begins_at k) ds once in
    let there = entry_there k n ds found.0 (Some e) found.1 is in
    let one = once_named n (entries found.0) e ordered (found_has (λ (d : Directory). Rise (entries d))
    (begins_at k) ds found.0 found.1 good.order) there in
    record {
      order = All-where (λ (d : Directory). Rise (entries d)) (begins_at k) (change_in n f) ds
          (λ d here rise. subst Rise (sym (entries_change n f d)) (Rise-changed n f (entries d) keeps rise)) good.order;
      proper = All-where_one (λ (d : Directory). All (IsProper limits) (entries d)) (begins_at k) (change_in n f) ds found.0 found.1 once
          (λ all. subst (All (IsProper limits)) (sym (entries_change n f found.0))
          (All-where_one (IsProper limits) (is_named n) f (entries found.0) e there one (λ old. proper) all)) good.proper;
    }
