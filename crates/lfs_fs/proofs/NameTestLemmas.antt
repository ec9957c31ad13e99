-- Names compared byte by byte.
use Rattle.std.proofs.Common.{◌≡◌, ℕ, ◌+◌, ◌<◌, ◌≤◌, true, false, [], ◌∷◌, length, drop, get_or, refl, ap, sym, ◌∙◌, drop-cons}
use Rattle.std.proofs.Common.{add-one}
use Rattle.std.proofs.lemmas.List.{drop_all}
use Rattle.lfs_meta.specs.Name.{Name}
use Rattle.lfs_fs.specs.NameOrder.{precedes}

at : (x : Name) (i : ℕ) → i < length x → drop i x ≡ get_or x i 0 ∷ drop (i + 1) x
at x i within = drop-cons x i 0 within ∙ ap (λ n. get_or x i 0 ∷ drop n x) (sym (add-one i))

-- the longer name comes first
pub longer_first : (i : ℕ) (x y : Name) → i < length x → length y ≤ i → precedes (drop i x) (drop i y) ≡ true
longer_first i x y within over = rw (at x i within, drop_all i y over) refl

shorter_last : (x y : Name) → x ≡ [] → precedes x y ≡ false
shorter_last x y is = rw is refl

-- the shorter one doesn't
pub none_left : (i : ℕ) (x y : Name) → length x ≤ i → precedes (drop i x) (drop i y) ≡ false
none_left i x y over = shorter_last (drop i x) (drop i y) (drop_all i x over)
