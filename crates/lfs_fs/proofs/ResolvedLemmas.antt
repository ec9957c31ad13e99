-- What stored entries stand for.
use Rattle.std.proofs.Common.{◌≡◌, ◌≢◌, List, [], ◌∷◌, ◌++◌, refl, ap, ◌∙◌}
use Rattle.std.specs.Prelude.{All, flat_map}
use Rattle.std.specs.List.{AllZip}
use Rattle.std.proofs.lemmas.List.Elements.{All-head, All-tail}
use Rattle.lfs_meta.specs.declared.kind.Kind.{Kind}
use Rattle.lfs_meta.specs.declared.kind.Kind.TheVariants.{File, Dir, Super}
use Rattle.lfs_meta.specs.Entry.{StoredEntry}
use Rattle.lfs_fs.specs.Entry.{Entry}
use Rattle.lfs_fs.specs.Reading.{Reading}
use Rattle.lfs_fs.specs.Held.{resolved_body, resolved_as, resolved}

-- what a stored entry stands for, unless it is a superblock
abbrev pub stood_for : Reading → StoredEntry → Entry
stood_for r s = record { name = s.name; body = resolved_body r s.body; attributes = s.attributes }

by_kind : (r : Reading) (s : StoredEntry) (kind : Kind) → kind ≢ Super → resolved_as r s kind ≡ stood_for r s ∷ []
by_kind r s File other = refl
by_kind r s Dir other = refl
by_kind r s Super other = absurd (other refl)

pub resolved_is : (r : Reading) (s : StoredEntry) → s.kind ≢ Super → resolved r s ≡ stood_for r s ∷ []
resolved_is r s other = by_kind r s s.kind other

one_by_kind : (r : Reading) (s : StoredEntry) (e : Entry) (kind : Kind) → resolved_as r s kind ≡ e ∷ [] → e ≡ stood_for r s
one_by_kind r s e File is = cc
one_by_kind r s e Dir is = cc
one_by_kind r s e Super is = cc

pub one_resolved : (r : Reading) (s : StoredEntry) (e : Entry) → resolved r s ≡ e ∷ [] → e ≡ stood_for r s
one_resolved r s e is = one_by_kind r s e s.kind is

-- stored entries and what they stand for, one by one
abbrev pub Resolves : Reading → StoredEntry → Entry → Type 0
Resolves r s e = resolved r s ≡ e ∷ []

pub each_resolves : (r : Reading) (es : List StoredEntry) → All (λ s. s.kind ≢ Super) es → AllZip (Resolves r) es (flat_map (resolved r) es)
each_resolves r [] others = tt
each_resolves r (s ∷ es) others =
    let one : resolved r s ≡ stood_for r s ∷ [] = resolved_is r s (All-head (λ (x : StoredEntry). x.kind ≢ Super) s es others) in
    rw one (one, each_resolves r es (All-tail (λ (x : StoredEntry). x.kind ≢ Super) s es others))

pub all_resolved : (r : Reading) (es : List StoredEntry) (fs : List Entry) → AllZip (Resolves r) es fs → flat_map (resolved r) es ≡ fs
all_resolved r [] [] h = refl
all_resolved r [] (f ∷ fs) h = absurd h
all_resolved r (s ∷ es) [] h = absurd h
all_resolved r (s ∷ es) (f ∷ fs) h = ap (λ x. x ++ flat_map (resolved r) es) h.0 ∙ ap (λ x. f ∷ x) (all_resolved r es fs h.1)
