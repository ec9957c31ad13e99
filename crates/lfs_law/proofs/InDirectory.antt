-- One directory of a volume changed: which ones are found, what stands under other names, and the effect.
use Rattle.std.proofs.Common.{◌≡◌, ℕ, ◌+◌, Bool, true, false, List, [], ◌∷◌, refl, ap, sym, ◌∙◌, subst, arith, Option, Some, None}
use Rattle.std.specs.Prelude.{cond, if◌then◌else◌, count_by, find, bit_xor}
use Rattle.std.specs.Option.{option_and_then, option_map}
use Rattle.lfs_meta.specs.Name.{Name}
use Rattle.lfs_meta.specs.Body.{Pair}
use Rattle.lfs_fs.specs.Pair.{root, unordered, same_pair}
use Rattle.lfs_fs.specs.Entry.{Entry, is_named}
use Rattle.lfs_fs.specs.Directory.{Directory, parts, entries, begins_at, thread}
use Rattle.lfs_fs.specs.Tree.{entry_in}
use Rattle.lfs_fs.specs.Uses.{directory_uses}
use Rattle.lfs_fs.specs.Named.{names_of}
use Rattle.lfs_fs.specs.State.{delta_of}
use Rattle.lfs_fs.specs.Sound.{StartsAtRoot}
use Rattle.lfs_command.specs.ThreadEdit.{in_directory}
use Rattle.lfs_law.proofs.Decided.{same_pair_decides}
use Rattle.lfs_law.proofs.Effect.{Counts, Effect}
use Rattle.lfs_law.proofs.OneElement.{sum_where, find_where, find_where_other}
use Rattle.lfs_law.proofs.DirectoryEdits.{KeepsFirst, pairs, begins_there, begins_same, delta_append}

-- ---- pairs

-- a directory begins at one pair
pub begins_elsewhere : (j k : Pair) → (j ≡ k → ⊥) → (d : Directory) → begins_at k d ≡ true → begins_at j d ≡ false
begins_elsewhere j k differ d is = go (begins_at j d) refl
  where
    go : (b : Bool) → begins_at j d ≡ b → b ≡ false
    go true same = absurd (differ ((same_pair_decides j (unordered d.first.pair)).0 same
        ∙ sym ((same_pair_decides k (unordered d.first.pair)).0 is)))
    go false same = refl

-- ---- what is found

-- f leaves each directory's first pair and delta
abbrev pub KeepsAllFirst : (Directory → Directory) → Type 0
KeepsAllFirst f = (d : Directory) → KeepsFirst d (f d)

pub find_here : (k : Pair) (f : Directory → Directory) (ds : List Directory) → KeepsAllFirst f
    → find (begins_at k) (in_directory k f ds) ≡ option_map f (find (begins_at k) ds)
find_here k f ds keeps = find_where (begins_at k) f ds (λ d is. begins_there k d (f d) (keeps d).first ∙ is)

pub find_elsewhere : (j k : Pair) (f : Directory → Directory) (ds : List Directory) → KeepsAllFirst f → (j ≡ k → ⊥)
    → find (begins_at j) (in_directory k f ds) ≡ find (begins_at j) ds
find_elsewhere j k f ds keeps differ = find_where_other (begins_at k) (begins_at j) f ds (λ d is. begins_there j d (f d) (keeps d).first)
    (begins_elsewhere j k differ)

-- the entry under a name in the directory that is found
abbrev pub entry_of : Name → Option Directory → Option Entry
entry_of n = option_and_then (λ d. find (is_named n) (entries d))

-- f leaves what stands under the name
same_entry : (m : Name) (f : Directory → Directory) (o : Option Directory)
    → ((d : Directory) → find (is_named m) (entries (f d)) ≡ find (is_named m) (entries d))
    → entry_of m (option_map f o) ≡ entry_of m o
same_entry m f None same = refl
same_entry m f (Some d) same = same d

-- the edges other than one in the directory that is changed
pub other_edges : (k : Pair) (n : Name) (f : Directory → Directory) (ds : List Directory) → KeepsAllFirst f
    → ((m : Name) → (m ≡ n → ⊥) → (d : Directory) → find (is_named m) (entries (f d)) ≡ find (is_named m) (entries d))
    → (j : Pair) (m : Name) → ((j ≡ k) × (m ≡ n) → ⊥) → entry_in (in_directory k f ds) j m ≡ entry_in ds j m
other_edges k n f ds keeps same j m other = go (same_pair j k) refl
  where
    go : (b : Bool) → same_pair j k ≡ b → entry_in (in_directory k f ds) j m ≡ entry_in ds j m
    go true is =
        let here : j ≡ k = (same_pair_decides j k).0 is in
        subst (λ (p : Pair). entry_in (in_directory k f ds) p m ≡ entry_in ds p m) (sym here)
        (ap (entry_of m) (find_here k f ds keeps) ∙ same_entry m f (find (begins_at k) ds) (same m (λ (name : m ≡ n). other (here, name))))
    go false is = ap (entry_of m) (find_elsewhere j k f ds keeps (λ (here : j ≡ k). grind (arith, (same_pair_decides j j).1 refl)))

-- ---- what stands under a name of the first directory, and of the others

entry_first : (j : Pair) (m : Name) (d : Directory) (ds : List Directory)
    → entry_in (d ∷ ds) j m ≡ (if begins_at j d then find (is_named m) (entries d) else entry_in ds j m)
entry_first j m d ds = go (begins_at j d)
  where
    go : (b : Bool) → entry_of m (if b then Some d else find (begins_at j) ds)
        ≡ (if b then find (is_named m) (entries d) else entry_in ds j m)
    go true = refl
    go false = refl

pub same_first_entries : (j : Pair) (m : Name) (d new : Directory) (ds es : List Directory) → pairs (parts new) ≡ pairs (parts d)
    → entries new ≡ entries d → entry_in es j m ≡ entry_in ds j m
    → entry_in (new ∷ es) j m ≡ entry_in (d ∷ ds) j m
same_first_entries j m d new ds es key_same entries_same rest =
    entry_first j m new es
    ∙ ap (λ (b : Bool). if b then find (is_named m) (entries new) else entry_in es j m) (begins_same j d new key_same)
    ∙ ap (λ (xs : List Entry). if begins_at j d then find (is_named m) xs else entry_in es j m) entries_same
    ∙ ap (λ (o : Option Entry). if begins_at j d then find (is_named m) (entries d) else o) rest
    ∙ sym (entry_first j m d ds)

-- one without entries, at a pair where nothing comes after it
pub empty_first : (j : Pair) (m : Name) (d : Directory) (ds : List Directory) → entries d ≡ []
    → (begins_at j d ≡ true → find (begins_at j) ds ≡ None) → entry_in (d ∷ ds) j m ≡ entry_in ds j m
empty_first j m d ds empty fresh = go (begins_at j d) refl
  where
    go : (b : Bool) → begins_at j d ≡ b → entry_of m (if b then Some d else find (begins_at j) ds) ≡ entry_in ds j m
    go true is = ap (find (is_named m)) empty ∙ sym (ap (entry_of m) (fresh is))
    go false is = refl

-- ---- effects

starts_in : (k : Pair) (f : Directory → Directory) (ds : List Directory) → KeepsAllFirst f → StartsAtRoot ds
    → StartsAtRoot (in_directory k f ds)
starts_in k f [] keeps starts = starts
starts_in k f (d ∷ ds) keeps starts = go (begins_at k d)
  where
    go : (b : Bool) → (if b then f d else d).first.pair ≡ root
    go true = (keeps d).first ∙ starts
    go false = starts

delta_in : (k : Pair) (f : Directory → Directory) (ds : List Directory) → KeepsAllFirst f
    → delta_of (thread (in_directory k f ds)) ≡ delta_of (thread ds)
delta_in k f [] keeps = refl
delta_in k f (d ∷ ds) keeps =
    delta_append (parts (if begins_at k d then f d else d)) (thread (in_directory k f ds))
    ∙ ap (bit_xor (delta_of (parts (if begins_at k d then f d else d)))) (delta_in k f ds keeps)
    ∙ ap (λ (x : ℕ). bit_xor x (delta_of (thread ds))) (go (begins_at k d))
    ∙ sym (delta_append (parts d) (thread ds))
  where
    go : (b : Bool) → delta_of (parts (if b then f d else d)) ≡ delta_of (parts d)
    go true = (keeps d).delta
    go false = refl

-- the directory of a pair changed by f, which takes out of it what is in `gone`, and puts in what is in `came`
pub effect_in : (gone came : Counts) (k : Pair) (f : Directory → Directory) (ds : List Directory) (d : Directory) → KeepsAllFirst f
    → find (begins_at k) ds ≡ Some d → count_by (begins_at k) ds ≡ 1
    → ((b : ℕ) → directory_uses b (f d) + gone.uses b ≡ directory_uses b d + came.uses b)
    → ((j : Pair) → names_of j (f d) + gone.names j ≡ names_of j d + came.names j)
    → ((j : Pair) → gone.directories j ≡ came.directories j)
    → Effect gone came ds (in_directory k f ds)
effect_in gone came k f ds d keeps found once uses names directories = record {
  uses = λ b. omega (arith, uses b, sum_where (directory_uses b) (begins_at k) f ds d found once);
  names = λ j. omega (arith, names j, sum_where (names_of j) (begins_at k) f ds d found once);
  directories = λ j.
      let same : cond {A = ℕ} (begins_at j (f d)) 1 0 ≡ cond (begins_at j d) 1 0 =
      ap (λ (b : Bool). cond {A = ℕ} b 1 0) (begins_there j d (f d) (keeps d).first) in
      omega (arith, directories j, same, sum_where (λ (x : Directory). cond {A = ℕ} (begins_at j x) 1 0) (begins_at k) f ds d found once);
  starts = starts_in k f ds keeps;
  delta = delta_in k f ds keeps;
}
