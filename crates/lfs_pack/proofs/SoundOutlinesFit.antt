-- A sound outline each part of which fits a new pair can be written.
use Rattle.std.proofs.Common.{◌≡◌, ℕ, ◌+◌, ◌≤◌, Bool, true, false, List, [], ◌∷◌, length, map, refl, ap, arith}
use Rattle.std.specs.Prelude.{All, Contains, if◌then◌else◌, sum_by}
use Rattle.std.specs.List.{AllByRecursion}
use Rattle.std.proofs.lemmas.List.Elements.{All-contains, All-head, All-tail, All-weaker}
use Rattle.std.proofs.lemmas.List.Sums.{sum_by-cons}
use Rattle.lfs_meta.specs.Attribute.{Attributes}
use Rattle.lfs_meta.specs.Fits.{TailFits}
use Rattle.lfs_meta.specs.Laws.{NamesAreDecided}
use Rattle.lfs_meta.specs.Name.{IsName}
use Rattle.lfs_meta.specs.Complete.{IsComplete}
use Rattle.lfs_meta.specs.Weighing.{weights, weight_as_stored as stored_weight}
use Rattle.lfs_fs.specs.AsStored.{stored_entry}
use Rattle.lfs_fs.specs.Directory.{Part, entries, thread}
use Rattle.lfs_fs.specs.Entry.{Entry}
use Rattle.lfs_fs.specs.Sound.{IsProper, IsSound}
use Rattle.lfs_fs.specs.Superblock.{superblock_entry}
use Rattle.lfs_fs.specs.Thread.{Link, links}
use Rattle.lfs_fs.specs.Uses.{pair_uses}
use Rattle.lfs_fs.specs.Volume.{Volume}
use Rattle.lfs_fs.specs.Weight.{superblock_weight, weight}
use Rattle.lfs_command.specs.Cut.{is_first}
use Rattle.lfs_law.specs.SuperblockBytes.{volume_bytes}
use Rattle.lfs_law.specs.WrittenLinks.{stored_entries}
use Rattle.lfs_law.proofs.CutLinksFit.{pair_apart, pair_below, tails_below, entry_weighs, stored_many, body_taken, name_taken, thread_named}
use Rattle.lfs_law.proofs.OutlineRoom.{sum_over}
use Rattle.lfs_fs.proofs.ChainedLemmas.{parts_of_links}
use Rattle.lfs_law.proofs.WrittenLemmas.{part_there, sum_thread}
use Rattle.lfs_pack.specs.Filled.{CanFillPair}
use Rattle.lfs_pack.specs.OutlinesTaken.{FitsNewPair, SoundOutlinesCanBeTaken, front_weight}
use Rattle.lfs_pack.proofs.NewImagesHeld.{names_of_parts, pairs_only}

-- ---- entries as they are stored

stored_weighs : (bytes : List ℕ) (o : Volume) (p : Part) → length bytes ≡ 24
    → weights (stored_entries bytes o.attributes p) ≡ front_weight o p + sum_by weight p.entries
stored_weighs bytes o p len = by (is_first p)
  where
    others : weights (map stored_entry p.entries) ≡ sum_by weight p.entries
    others = sum_over weight stored_weight stored_entry entry_weighs p.entries

    superblock : stored_weight (superblock_entry bytes o.attributes) ≡ superblock_weight o.attributes
    superblock = omega (arith, len)

    by : (t : Bool) → weights (if t then superblock_entry bytes o.attributes ∷ map stored_entry p.entries else map stored_entry p.entries)
        ≡ (if t then superblock_weight o.attributes else 0) + sum_by weight p.entries
    by true = omega (
      arith,
      others,
      superblock,
      sum_by-cons stored_weight (superblock_entry bytes o.attributes) (map stored_entry p.entries),
    )
    by false = omega (arith, others)

abbrev AreNamed : List Entry → Type 0
AreNamed es = All (λ e. IsName e.name) es

each_complete : NamesAreDecided → (es : List Entry) → AreNamed es → AllByRecursion IsComplete (map stored_entry es)
each_complete decided [] names = tt
each_complete decided (e ∷ es) names = (
  record { body = body_taken e.body; name = name_taken decided e.body e.name (All-head (λ x. IsName x.name) e es names) },
  each_complete decided es (All-tail (λ x. IsName x.name) e es names),
)

stored_complete : NamesAreDecided → (bytes : List ℕ) (attributes : Attributes) (p : Part) → AreNamed p.entries
    → AllByRecursion IsComplete (stored_entries bytes attributes p)
stored_complete decided bytes attributes p names = by (is_first p)
  where
    by : (t : Bool) → AllByRecursion IsComplete (if t then superblock_entry bytes attributes
        ∷ map stored_entry p.entries else map stored_entry p.entries)
    by true = (record { body = refl; name = refl }, each_complete decided p.entries names)
    by false = each_complete decided p.entries names

-- ---- names, by parts

sound_named : (v : Volume) → IsSound v → All (λ p. AreNamed p.entries) (thread v.directories)
sound_named v sound =
    thread_named v.directories (All-weaker (λ d. All (IsProper v.limits) (entries d)) (λ d. AreNamed (entries d))
    (λ d proper. All-weaker (IsProper v.limits) (λ e. IsName e.name) (λ e is. is.name) (entries d) proper)
    v.directories sound.proper)

-- ---- the links

bytes_len : (o : Volume) → length (volume_bytes o) ≡ 24
unfolding volume_bytes
bytes_len o = refl

pub sound_outlines_can_be_taken : NamesAreDecided → SoundOutlinesCanBeTaken
sound_outlines_can_be_taken decided d o disk sound size count fit = record {
  rise = sound.root_attributes;
  pairs = record { once = once; each = each };
}
  where
    once : (n : ℕ) → sum_by (λ (l : Link). pair_uses n l.part) (links o.directories) ≤ 1
    once n = omega (
      arith,
      sound.once n,
      sum_thread n o.directories,
      pairs_only n (thread o.directories),
      ap (sum_by (pair_uses n)) (parts_of_links o.directories),
      names_of_parts n (links o.directories),
    )

    each : (l : Link) → Contains (links o.directories) l → CanFillPair d (volume_bytes o) o.attributes l
    each l there =
        let part = part_there o.directories l there in
        let fits : FitsNewPair d o l.part = All-contains (FitsNewPair d o) (thread o.directories) l.part fit part in
        let below = pair_below d.count o sound count l.part part in
        let few : length (stored_entries (volume_bytes o) o.attributes l.part) ≤ 1000 =
        omega (arith, stored_many (volume_bytes o) o.attributes l.part, fits.few) in
        let light : weights (stored_entries (volume_bytes o) o.attributes l.part) + 40 ≤ d.size =
        omega (arith, stored_weighs (volume_bytes o) o l.part (bytes_len o), fits.light, size, disk.geometry.size_fits.0) in
        record {
          may = record {
            apart = pair_apart d.count o sound count l.part part;
            first = below.0;
            second = below.1;
            complete = stored_complete decided (volume_bytes o) o.attributes l.part
                (All-contains (λ (p : Part). AreNamed p.entries) (thread o.directories) l.part (sound_named o sound) part);
            few = few;
            room = light;
            tail = All-contains (λ (m : Link). TailFits m.tail) (links o.directories) l
                (tails_below d.count o sound count disk.geometry.count_fits.1) there;
          };
          none = fits.none;
          erased = fits.erased;
        }
