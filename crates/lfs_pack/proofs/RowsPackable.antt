-- The rows of a mounted image can be packed.
use Rattle.std.proofs.Common.{◌≡◌, ℕ, true, List, [], ◌∷◌, Some, refl, sym, subst, inl, inr}
use Rattle.std.specs.Prelude.{All, Contains}
use Rattle.std.proofs.lemmas.Option.{same_Some}
use Rattle.std.proofs.lemmas.List.Elements.{All-contains, All-map, All-weaker}
use Rattle.lfs_block.specs.Disk.{Disk}
use Rattle.lfs_meta.specs.Attribute.{Attributes}
use Rattle.lfs_meta.specs.Name.{IsName}
use Rattle.lfs_fs.specs.Entry.{Entry}
use Rattle.lfs_fs.specs.Path.{Path}
use Rattle.lfs_fs.specs.Row.{Row, RowsRise, path_precedes}
use Rattle.lfs_fs.specs.Sound.{AreAttributes, IsSound}
use Rattle.lfs_fs.specs.SoundOutlines.{OutlinesAreSound}
use Rattle.lfs_fs.specs.Tree.{entry_at, top}
use Rattle.lfs_fs.specs.Volume.{Volume}
use Rattle.lfs_fs.proofs.ContainsLemmas.{contains_cases, contains_none}
use Rattle.lfs_fs.proofs.EntryAtLemmas.{by_last_name, stands_below}
use Rattle.lfs_fs.proofs.ProperLemmas.{names_of_path, proper_below}
use Rattle.lfs_pack.specs.Packed.{BeginAtRoot, KindsRise, Packed, PackedRise}
use Rattle.lfs_pack.specs.RepackLaws.{RowsArePackable}
use Rattle.lfs_pack.specs.Repacked.{all_packed, packed_of}

module _ (most : ℕ) where
  kinds_rise : (limit : ℕ) (a : Attributes) → AreAttributes limit a → KindsRise a
  kinds_rise limit [] are = tt
  kinds_rise limit (x ∷ more) are = (are.1, kinds_rise limit more are.2)

  -- the kinds of an entry of a sound volume rise
  kinds_at : (v : Volume) → IsSound v → (p : Path) (e : Entry) → entry_at v p ≡ Some e → KindsRise e.attributes
  kinds_at v sound =
      by_last_name (λ (p : Path). (e : Entry) → entry_at v p ≡ Some e → KindsRise e.attributes)
      (λ e there. subst (λ (x : Entry). KindsRise x.attributes) (same_Some (top v) e there)
      (kinds_rise v.limits.attribute v.attributes sound.root_attributes))
      (λ p n above e there.
      kinds_rise v.limits.attribute e.attributes (proper_below v sound p n e (stands_below v p n e there)).attributes)

  -- no path comes before the root's
  not_before : (p : Path) → path_precedes p [] ≡ true → ⊥
  not_before [] before = cc
  not_before (n ∷ p) before = cc

  -- the root's row is the first
  begins : (d : Disk) (v : Volume) (rows : List Row) → RowsRise rows → Contains rows (record { path = []; entry = top v })
      → BeginAtRoot (all_packed most d rows)
  begins d v [] rise there = contains_none (record { path = []; entry = top v }) there
  begins d v (r ∷ rows) rise there =
      elim (contains_cases r rows (record { path = []; entry = top v }) there) [
        | inl same ↦ subst (λ (x : Row). BeginAtRoot (all_packed most d (x ∷ rows))) same (refl, refl)
        | inr later ↦
            absurd (not_before r.path
            (All-contains (λ (s : Row). path_precedes r.path s.path ≡ true) rows (record { path = []; entry = top v }) rise.0 later))
      ]

  packed_rise : (d : Disk) (rows : List Row) → RowsRise rows → PackedRise (all_packed most d rows)
  packed_rise d [] rise = tt
  packed_rise d (r ∷ rows) rise =
      (All-map (λ (s : Packed). path_precedes r.path s.path ≡ true) (packed_of most d) rows rise.0, packed_rise d rows rise.1)

pub rows_are_packable : OutlinesAreSound → RowsArePackable
rows_are_packable outlines most d m is =
    let sound : IsSound m.outline = subst IsSound (sym is.outline) (outlines is.volume is.sound) in
    record {
      root = begins most d m.outline m.rows is.rows.rise (is.rows.complete [] (top m.outline) refl);
      rise = packed_rise most d m.rows is.rows.rise;
      names = All-map (λ (x : Packed). All IsName x.path) (packed_of most d) m.rows
          (All-weaker (λ (r : Row). entry_at m.outline r.path ≡ Some r.entry) (λ (r : Row). All IsName r.path)
          (λ r there. names_of_path m.outline sound r.path r.entry there) m.rows is.rows.right);
      kinds = All-map (λ (x : Packed). KindsRise x.attributes) (packed_of most d) m.rows
          (All-weaker (λ (r : Row). entry_at m.outline r.path ≡ Some r.entry) (λ (r : Row). KindsRise r.entry.attributes)
          (λ r there. kinds_at most m.outline sound r.path r.entry there) m.rows is.rows.right);
    }
