-- The links that are set of what an accepted command leaves, cut, may be written.
use Rattle.std.proofs.Common.{◌≡◌, ℕ, ◌+◌, ◌<◌, ◌≤◌, ◌==◌, Bool, true, false, List, [], ◌∷◌, length, refl, sym, ◌∙◌, subst, arith, map}
use Rattle.std.specs.Prelude.{All, Contains, if◌then◌else◌, sum_by}
use Rattle.std.specs.List.{AllByRecursion}
use Rattle.std.proofs.lemmas.Bool.Decides.{nat_tests}
use Rattle.std.proofs.lemmas.List.{length-map}
use Rattle.std.proofs.lemmas.List.Elements.{All-nil, All-cons, All-head, All-tail, All-append, All-map, All-weaker, All-contains}
use Rattle.std.proofs.lemmas.List.Elements.{All-contains_itself}
use Rattle.std.proofs.lemmas.List.Sums.{sum_by-cons}
use Rattle.lfs_meta.specs.Attribute.{Attributes}
use Rattle.lfs_meta.specs.Body.{Pair}
use Rattle.lfs_meta.specs.Fits.{TailFits}
use Rattle.lfs_meta.specs.Laws.{NamesAreDecided}
use Rattle.lfs_meta.specs.Name.{IsName}
use Rattle.lfs_meta.specs.Body.{body_bytes}
use Rattle.lfs_meta.specs.Complete.{IsComplete}
use Rattle.lfs_meta.specs.Weighing.{attributes_weight, weights, weight_as_stored as stored_weight}
use Rattle.lfs_meta.specs.Complete.{kind_takes_body, kind_takes_name}
use Rattle.lfs_fs.specs.AsStored.{stored_kind, stored_body, stored_entry}
use Rattle.lfs_fs.specs.Directory.{Part, Directory, parts, entries, thread}
use Rattle.lfs_fs.specs.Entry.{Body, Inline, Chain, Directory_at, Entry}
use Rattle.lfs_fs.specs.Outlined.{outlined_entry, outlined}
use Rattle.lfs_fs.specs.Pair.{root, same_pair}
use Rattle.lfs_fs.specs.Sound.{IsSound, IsProper}
use Rattle.lfs_fs.specs.Superblock.{superblock_entry}
use Rattle.lfs_fs.specs.Thread.{Link, links}
use Rattle.lfs_fs.specs.Uses.{times, pair_uses, uses}
use Rattle.lfs_fs.specs.Volume.{Volume}
use Rattle.lfs_fs.specs.Weight.{body_weight, weight, superblock_weight}
use Rattle.lfs_fs.proofs.CountLemmas.{element_le}
use Rattle.lfs_command.specs.Accepted.{Follows}
use Rattle.lfs_law.specs.CutWritten.{CutLinksCanBeWritten}
use Rattle.lfs_command.specs.Cut.{cut, is_first, new_pairs}
use Rattle.lfs_command.specs.Edited.{edited}
use Rattle.lfs_law.specs.Laws.{CutsFollow}
use Rattle.lfs_command.specs.Need.{is_new_to}
use Rattle.lfs_law.specs.WrittenLinks.{stored_entries, CanBeWritten}
use Rattle.lfs_law.proofs.Cuts.{All-left, All-right}
use Rattle.lfs_law.proofs.DirectoryEdits.{entries_of}
use Rattle.lfs_law.proofs.LinkFits.{BlocksFit, tails_fit}
use Rattle.lfs_law.proofs.LinksAdded.{first_used, second_used, times_pair}
use Rattle.lfs_law.proofs.NamedBlocks.{chosen_is_new}
use Rattle.lfs_law.proofs.OutlineEntries.{weight_same, outlined_entries}
use Rattle.lfs_law.proofs.OutlineRoom.{sum_over}
use Rattle.lfs_law.proofs.OutlinesWritten.{outlined_link, links_outlined}
use Rattle.lfs_law.proofs.PartsFit.{front_weight, front_count, PartFits, FitsWhenSet, cut_fits, none_large, not_root}
use Rattle.lfs_law.proofs.WrittenLemmas.{part_uses, part_there, sum_thread}

-- ---- entries as they are stored

pub body_weighs : (n a : ℕ) (b : Body) → 4 + n + (4 + length (body_bytes (stored_body b))) + a ≡ 4 + n + body_weight b + a
body_weighs n a (Inline bytes) = refl
body_weighs n a (Chain blocks bytes) = refl
body_weighs n a (Directory_at pair) = refl

pub entry_weighs : (e : Entry) → stored_weight (stored_entry e) ≡ weight e
entry_weighs e = body_weighs (length e.name) (attributes_weight e.attributes) e.body

superblock_weighs : (bytes : List ℕ) (attributes : Attributes) → length bytes ≡ 24
    → stored_weight (superblock_entry bytes attributes) ≡ superblock_weight attributes
superblock_weighs bytes attributes len = omega (arith, len)

stored_weighs : (bytes : List ℕ) (attributes : Attributes) (p : Part) → length bytes ≡ 24
    → weights (stored_entries bytes attributes p) ≡ front_weight attributes p + sum_by weight p.entries
stored_weighs bytes attributes p len = by (is_first p)
  where
    others : weights (map stored_entry p.entries) ≡ sum_by weight p.entries
    others = sum_over weight stored_weight stored_entry entry_weighs p.entries

    by : (t : Bool) → weights (if t then superblock_entry bytes attributes ∷ map stored_entry p.entries else map stored_entry p.entries)
        ≡ (if t then superblock_weight attributes else 0) + sum_by weight p.entries
    by true = omega (
      arith,
      others,
      superblock_weighs bytes attributes len,
      sum_by-cons stored_weight (superblock_entry bytes attributes) (map stored_entry p.entries),
    )
    by false = omega (arith, others)

pub stored_many : (bytes : List ℕ) (attributes : Attributes) (p : Part) → length (stored_entries bytes attributes p)
    ≡ front_count p + length p.entries
stored_many bytes attributes p = by (is_first p)
  where
    by : (t : Bool) → length (if t then superblock_entry bytes attributes ∷ map stored_entry p.entries else map stored_entry p.entries)
        ≡ (if t then 1 else 0) + length p.entries
    by true = omega (arith, length-map p.entries stored_entry)
    by false = omega (arith, length-map p.entries stored_entry)

-- a struct and a name that the kind takes
pub body_taken : (b : Body) → kind_takes_body (stored_kind b) (stored_body b) ≡ true
body_taken (Inline bytes) = refl
body_taken (Chain blocks bytes) = refl
body_taken (Directory_at pair) = refl

pub name_taken : NamesAreDecided → (b : Body) (n : List ℕ) → IsName n → kind_takes_name (stored_kind b) n ≡ true
name_taken decided (Inline bytes) n is = (decided n).1 is
name_taken decided (Chain blocks bytes) n is = (decided n).1 is
name_taken decided (Directory_at pair) n is = (decided n).1 is

each_complete : NamesAreDecided → (es : List Entry) → All (λ e. IsName e.name) es → AllByRecursion IsComplete (map stored_entry es)
each_complete decided [] names = tt
each_complete decided (e ∷ es) names = (
  record { body = body_taken e.body; name = name_taken decided e.body e.name (All-head (λ x. IsName x.name) e es names) },
  each_complete decided es (All-tail (λ x. IsName x.name) e es names),
)

stored_complete : NamesAreDecided → (bytes : List ℕ) (attributes : Attributes) (p : Part) → All (λ e. IsName e.name) p.entries
    → AllByRecursion IsComplete (stored_entries bytes attributes p)
stored_complete decided bytes attributes p names = by (is_first p)
  where
    by : (t : Bool) → AllByRecursion IsComplete (if t then superblock_entry bytes attributes
        ∷ map stored_entry p.entries else map stored_entry p.entries)
    by true = (record { body = refl; name = refl }, each_complete decided p.entries names)
    by false = each_complete decided p.entries names

-- ---- names, by parts

abbrev AreNamed : List Entry → Type 0
AreNamed es = All (λ e. IsName e.name) es

pub parts_named : (ps : List Part) → AreNamed (entries_of ps) → All (λ p. AreNamed p.entries) ps
parts_named [] all = All-nil (λ (p : Part). AreNamed p.entries)
parts_named (p ∷ ps) all =
    All-cons (λ (q : Part). AreNamed q.entries) p ps (All-left (λ (e : Entry). IsName e.name) p.entries (entries_of ps) all)
    (parts_named ps (All-right (λ (e : Entry). IsName e.name) p.entries (entries_of ps) all))

pub thread_named : (ds : List Directory) → All (λ d. AreNamed (entries d)) ds → All (λ p. AreNamed p.entries) (thread ds)
thread_named [] all = All-nil (λ (p : Part). AreNamed p.entries)
thread_named (d ∷ ds) all =
    All-append (λ (p : Part). AreNamed p.entries) (parts d) (thread ds)
    (parts_named (parts d) (All-head (λ (x : Directory). AreNamed (entries x)) d ds all))
    (thread_named ds (All-tail (λ (x : Directory). AreNamed (entries x)) d ds all))

sound_named : (v : Volume) → IsSound v → All (λ d. AreNamed (entries d)) v.directories
sound_named v sound =
    All-weaker (λ d. All (IsProper v.limits) (entries d)) (λ d. AreNamed (entries d))
    (λ d proper. All-weaker (IsProper v.limits) (λ e. IsName e.name) (λ e is. is.name) (entries d) proper)
    v.directories sound.proper

-- ---- a link of a sound volume

module _ (count : ℕ) (w : Volume) (sound : IsSound w) (same : w.count ≡ count) where
  used_le : (p : Part) → Contains (thread w.directories) p → (b : ℕ) → part_uses b p ≤ uses b w
  used_le p there b = omega (arith, element_le (part_uses b) (thread w.directories) p there, sum_thread b w.directories)

  block_below : (p : Part) → Contains (thread w.directories) p → (b : ℕ) → 1 ≤ pair_uses b p → b < count
  block_below p there b used = omega (arith, sound.within b (omega (arith, used_le p there b, used)), same)

  pub pair_below : (p : Part) → Contains (thread w.directories) p → BlocksFit count p.pair
  pair_below p there = (block_below p there p.pair.0 (first_used p.pair), block_below p there p.pair.1 (second_used p.pair))

  pub pair_apart : (p : Part) → Contains (thread w.directories) p → p.pair.0 ≡ p.pair.1 → ⊥
  pair_apart p there is =
      let twice : 2 ≤ pair_uses p.pair.0 p = two_used p.pair is in
      omega (arith, used_le p there p.pair.0, twice, sound.once p.pair.0)
    where
      two_used : (q : Pair) → q.0 ≡ q.1 → 2 ≤ times q.0 (q.0 ∷ q.1 ∷ [])
      two_used q same' = subst (λ (n : ℕ). 2 ≤ times q.0 (q.0 ∷ n ∷ [])) same'
          (omega (arith, times_pair q.0 (q.0, q.0), first_used (q.0, q.0)))

  pub tails_below : count ≤ 65536 → All (λ l. TailFits l.tail) (links w.directories)
  tails_below few =
      tails_fit count few w.directories
      (All-weaker (Contains (thread w.directories)) (λ (p : Part). BlocksFit count p.pair) pair_below (thread w.directories)
      (All-contains_itself (thread w.directories)))

-- ---- the links

outline_named : (es : List Entry) → AreNamed es → AreNamed (outlined_entries es)
outline_named es all = All-map (λ (e : Entry). IsName e.name) outlined_entry es all

outline_weighs : (es : List Entry) → sum_by weight (outlined_entries es) ≡ sum_by weight es
outline_weighs es = sum_over weight weight outlined_entry weight_same es

-- what holds of the outline of each link holds of each link of the outline
pub by_outline : (P : Link → Type 0) (w : Volume) → ((m : Link) → Contains (links w.directories) m → P (outlined_link m)) → (l : Link)
    → Contains (links (outlined w).directories) l → P l
by_outline P w each l there =
    All-contains P (links (outlined w).directories) l
    (subst (All P) (sym (links_outlined w.directories))
    (All-map P outlined_link (links w.directories) (All-weaker (Contains (links w.directories)) (λ m. P (outlined_link m)) each
    (links w.directories) (All-contains_itself (links w.directories)))))
    there

-- a pair that is new is of blocks that the volume doesn't use
unused : (v : Volume) (q : Pair) → is_new_to v q ≡ true → uses q.0 v ≡ 0
unused v q new = zero_is (uses q.0 v) new
  where
    zero_is : (n : ℕ) → (n == 0) ≡ true → n ≡ 0
    zero_is n h = grind (arith, nat_tests)

pub cut_links_can_be_written : NamesAreDecided → CutsFollow → CutLinksCanBeWritten
cut_links_can_be_written decided follow d v c s chosen new disk len ok pairs =
    by_outline (λ (l : Link). l.part.dirty ≡ true → CanBeWritten d new (cut chosen (edited v c s)).attributes l)
    (cut chosen (edited v c s)) each
  where
    w : Volume
    w = cut chosen (edited v c s)

    follows : Follows v c w
    follows = follow v c s chosen ok pairs

    count : w.count ≡ d.count
    count = follows.count ∙ sym disk.count

    size : w.size ≡ d.size
    size = follows.size ∙ sym disk.size

    other : (p : Part) → Contains (thread (edited v c s).directories) p → (q : Pair) → Contains (new_pairs chosen p) q
        → same_pair q root ≡ false
    other p there q inside = not_root v ok.sound q (unused v q (chosen_is_new v c s chosen pairs p there q inside))

    fits : All (FitsWhenSet (edited v c s)) (thread w.directories)
    fits = cut_fits chosen (edited v c s) (none_large v c s ok) other

    each : (m : Link) → Contains (links w.directories) m → m.part.dirty ≡ true → CanBeWritten d new w.attributes (outlined_link m)
    each m there set =
        let part = part_there w.directories m there in
        let names = outline_named m.part.entries (All-contains (λ (p : Part). AreNamed p.entries) (thread w.directories) m.part
        (thread_named w.directories (sound_named w follows.sound)) part) in
        let room : PartFits (edited v c s) m.part = All-contains (FitsWhenSet (edited v c s)) (thread w.directories) m.part fits part set in
        let below = pair_below d.count w follows.sound count m.part part in
        record {
          apart = pair_apart d.count w follows.sound count m.part part;
          first = below.0;
          second = below.1;
          complete = stored_complete decided new w.attributes (outlined_link m).part names;
          few = omega (
            arith,
            stored_many new w.attributes (outlined_link m).part,
            length-map m.part.entries outlined_entry,
            room.count,
          );
          room = omega (
            arith,
            stored_weighs new w.attributes (outlined_link m).part len,
            outline_weighs m.part.entries,
            room.weight',
            size,
            disk.disk.geometry.size_fits.0,
          );
          tail = All-contains (λ (l : Link). TailFits l.tail) (links w.directories) m
              (tails_below d.count w follows.sound count disk.disk.geometry.count_fits.1) there;
        }
