-- The last part of a directory, changed at its index.
use Rattle.std.proofs.Common.{◌≡◌, ℕ, ◌+◌, true, List, [], ◌∷◌, length, refl, ap, ◌∙◌, arith}
use Rattle.std.specs.Prelude.{slice_set, slice_index_or}
use Rattle.lfs_fs.specs.Directory.{Part, Directory, parts}
use Rattle.lfs_command.specs.DirectoryEdit.{touch, behind, touch_last_of, absorb_in, taking_up}

-- the last of some parts changed
abbrev pub last_changed : (Part → Part) → Part → List Part → Directory
last_changed f p [] = record { first = f p; more = [] }
last_changed f p (q ∷ ps) = behind p (last_changed f q ps)

pub touched_last : (p : Part) (ps : List Part) → touch_last_of p ps ≡ last_changed (touch true (λ es. es)) p ps
unfolding touch_last_of
touched_last p [] = refl
touched_last p (q ∷ ps) = ap (behind p) (touched_last q ps)

pub absorbed_last : (delta : ℕ) (p : Part) (ps : List Part) → absorb_in delta p ps ≡ last_changed (taking_up delta) p ps
unfolding absorb_in
absorbed_last delta p [] = refl
absorbed_last delta p (q ∷ ps) = ap (behind p) (absorbed_last delta q ps)

set_last : (f : Part → Part) (p : Part) (ps : List Part) (d : Part) → slice_set (p ∷ ps) (length ps)
    (f (slice_index_or (p ∷ ps) (length ps) d)) ≡ parts (last_changed f p ps)
set_last f p [] d = refl
set_last f p (q ∷ ps) d = ap (λ (qs : List Part). p ∷ qs) (set_last f q ps d)

-- where there are more parts, the last of them
pub changed_among : (f : Part → Part) (p : Part) (ps : List Part) (i : ℕ) (old new : Part) → i + 1 ≡ length ps
    → old ≡ slice_index_or ps i old → new ≡ f old
    → record { first = p; more = slice_set ps i new } ≡ last_changed f p ps
changed_among f p [] i old new at taken written = absurd (omega (arith, at))
changed_among f p (q ∷ qs) i old new at taken written =
    let here : i ≡ length qs = omega (arith, at) in
    ap (λ (more : List Part). record { first = p; more = more }) (
    ap (slice_set (q ∷ qs) i) (written ∙ ap f taken)
    ∙ ap (λ (k : ℕ). slice_set (q ∷ qs) k (f (slice_index_or (q ∷ qs) k old))) here
    ∙ set_last f q qs old)

-- else the first
pub changed_alone : (f : Part → Part) (p new : Part) (ps : List Part) → length ps ≡ 0 → new ≡ f p
    → record { first = new; more = ps } ≡ last_changed f p ps
changed_alone f p new [] none written = ap (λ (q : Part). record { first = q; more = [] }) written
changed_alone f p new (q ∷ qs) none written = absurd (omega (arith, none))
