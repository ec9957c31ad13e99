-- An image with the chains of a volume, and its outline written, holds the volume.
use Rattle.std.proofs.Common.{◌≡◌, false, ℕ, ◌+◌, ◌<◌, ◌≤◌, List, [], ◌∷◌, length, refl, ap, sym, ◌∙◌, subst, arith, inl, inr, map}
use Rattle.std.specs.Prelude.{All, Contains, replicate, sum_by}
use Rattle.std.proofs.lemmas.List.Elements.{All-contains, All-contains_itself, All-map, All-weaker}
use Rattle.std.proofs.lemmas.List.Sums.{sum_by-cons}
use Rattle.lfs_block.specs.Disk.{Disk, block_of}
use Rattle.lfs_file.specs.Laws.{ContentStays, FoundStay}
use Rattle.lfs_fs.specs.AsStored.{head_of, stored_entry}
use Rattle.lfs_fs.specs.Directory.{Directory, Part, thread}
use Rattle.lfs_fs.specs.Entry.{Body, Inline, Chain, Directory_at, Entry}
use Rattle.lfs_fs.specs.Outlined.{outlined}
use Rattle.lfs_fs.specs.Reading.{reading_of}
use Rattle.lfs_fs.specs.Stored.{HeldByLinksAreHeld, HoldsLinks, IsStored, SaysVolume}
use Rattle.lfs_fs.specs.Thread.{Link, links}
use Rattle.lfs_fs.specs.Uses.{body_uses, entry_uses, pair_uses, times, uses}
use Rattle.lfs_fs.specs.Volume.{Volume}
use Rattle.lfs_fs.proofs.ContainsLemmas.{contains_cases}
use Rattle.lfs_fs.proofs.CountLemmas.{element_le}
use Rattle.lfs_command.specs.PartWritten.{FirstIsFilled}
use Rattle.lfs_law.specs.OutlineLaws.{IsThere}
use Rattle.lfs_law.specs.SuperblockBytes.{volume_bytes}
use Rattle.lfs_law.specs.WrittenLinks.{link_part}
use Rattle.lfs_law.proofs.MadeBytes.{made_bytes_say}
use Rattle.lfs_law.proofs.OutlineEntries.{outlined_entries}
use Rattle.lfs_law.proofs.OutlinesWritten.{links_outlined, outline_there, outlined_link, entries_stand}
use Rattle.lfs_fs.proofs.ChainedLemmas.{parts_of_links}
use Rattle.lfs_law.proofs.WrittenLemmas.{chain_by, part_there, part_uses, sum_thread}
use Rattle.lfs_pack.specs.Filled.{FillsPair, first_blocks}
use Rattle.lfs_pack.specs.NewImages.{AllAreLaid, NewImagesHold, TakesVolume}
use Rattle.lfs_pack.proofs.LaidBodies.{laid_stays}
use Rattle.lfs_pack.proofs.PairsFilled.{firsts_within, name_of}

-- ---- chains stay, since their blocks are of no pair

pub pairs_only : (n : ℕ) (ps : List Part) → sum_by (pair_uses n) ps ≤ sum_by (part_uses n) ps
pairs_only n [] = omega arith
pairs_only n (p ∷ ps) = omega (arith, pairs_only n ps, sum_by-cons (pair_uses n) p ps, sum_by-cons (part_uses n) p ps)

pairs_and_chain : (n : ℕ) (ps : List Part) (p : Part) (x : Entry) → Contains ps p → Contains p.entries x
    → sum_by (pair_uses n) ps + entry_uses n x ≤ sum_by (part_uses n) ps
pairs_and_chain n [] p x there inside = let no : ⊥ = omega (arith, there.1) in absurd no
pairs_and_chain n (q ∷ ps) p x there inside = elim (contains_cases q ps p there) [
  | inl same ↦
      (let le : entry_uses n x ≤ sum_by (entry_uses n) p.entries = element_le (entry_uses n) p.entries x inside in
      let here : sum_by (entry_uses n) p.entries ≡ sum_by (entry_uses n) q.entries =
      ap (λ (r : Part). sum_by (entry_uses n) r.entries) same in
      omega (arith, le, here, pairs_only n ps, sum_by-cons (pair_uses n) q ps, sum_by-cons (part_uses n) q ps))
  | inr later ↦ omega (
    arith,
    pairs_and_chain n ps p x later inside,
    sum_by-cons (pair_uses n) q ps,
    sum_by-cons (part_uses n) q ps,
  )
]

pub names_of_parts : (n : ℕ) (ls : List Link) → sum_by (name_of n) ls ≡ sum_by (pair_uses n) (map (λ (l : Link). l.part) ls)
names_of_parts n [] = refl
names_of_parts n (l ∷ ls) =
    omega (
      arith,
      names_of_parts n ls,
      sum_by-cons (name_of n) l ls,
      sum_by-cons (pair_uses n) l.part (map (λ (m : Link). m.part) ls),
    )

firsts_outlined : (ls : List Link) → first_blocks (map outlined_link ls) ≡ first_blocks ls
firsts_outlined [] = refl
firsts_outlined (l ∷ ls) = ap (λ (ns : List ℕ). l.part.pair.0 ∷ ns) (firsts_outlined ls)

-- the first blocks of the pairs of an outline's links are used by the volume
firsts_used : (n : ℕ) (v : Volume) → times n (first_blocks (links (outlined v).directories)) ≤ uses n v
firsts_used n v =
    let ds : List Directory = v.directories in
    omega (
      arith,
      pairs_only n (thread ds),
      sum_thread n ds,
      ap (sum_by (pair_uses n)) (parts_of_links ds),
      names_of_parts n (links ds),
      firsts_within n (links ds),
      ap (times n) (ap first_blocks (links_outlined ds) ∙ firsts_outlined (links ds)),
    )

-- what holds of the parts of links holds of parts
of_links : (P : Part → Type 0) (ds : List Directory) → ((l : Link) → Contains (links ds) l → P l.part)
    → (p : Part) → Contains (thread ds) p → P p
of_links P ds each p there =
    All-contains P (thread ds) p
    (subst (All P) (parts_of_links ds)
    (All-map P (λ (l : Link). l.part) (links ds)
    (All-weaker (Contains (links ds)) (λ (l : Link). P l.part) each (links ds) (All-contains_itself (links ds))))) there

module _ (found : FoundStay) (content : ContentStays) (d e : Disk) (v : Volume) (takes : TakesVolume d e v) where
  -- a block of a chain is the first one of no pair
  no_first : (n : ℕ) (l : Link) (x : Entry) → Contains (links v.directories) l → Contains l.part.entries x → 0 < entry_uses n x
      → times n (first_blocks (links (outlined v).directories)) ≡ 0
  no_first n l x there inside used =
      let ds : List Directory = v.directories in
      omega (
        arith,
        used,
        takes.sound.once n,
        pairs_and_chain n (thread ds) l.part x (part_there ds l there) inside,
        sum_thread n ds,
        ap (sum_by (pair_uses n)) (parts_of_links ds),
        names_of_parts n (links ds),
        firsts_within n (links ds),
        ap (times n) (ap first_blocks (links_outlined ds) ∙ firsts_outlined (links ds)),
      )

  chain_there : (b : Body) → ((n : ℕ) → 0 < body_uses n b → block_of e n ≡ block_of d n) → IsThere (reading_of d) b
      → IsThere (reading_of e) b
  chain_there (Inline bytes) stays there = tt
  chain_there (Directory_at pair) stays there = tt
  chain_there (Chain blocks bytes) stays there =
      let same = takes.outline.but.disk in
      let still = chain_by found content d e takes.disk (Chain blocks bytes) same.size (omega (arith, same.count)) stays (head_of blocks) (length bytes)
      there.0 in
      (still.0, there.1 ∙ sym still.1)

  entry_there : (l : Link) → Contains (links v.directories) l → (x : Entry) → Contains l.part.entries x → IsThere (reading_of e) x.body
  entry_there l there x inside =
      chain_there x.body (λ n used. takes.outline.but.others n (no_first n l x there inside used)) (takes.there l there x inside)

  -- what is laid for a file still is
  still_laid : AllAreLaid d v → AllAreLaid e v
  still_laid all l there x inside =
      laid_stays d e x.body takes.outline.but.disk.size (λ n used. takes.outline.but.others n (no_first n l x there inside used))
      (all l there x inside)

  -- ---- each link is stored

  link_stored : (l : Link) → Contains (links v.directories) l → IsStored (reading_of e) (volume_bytes v) v.attributes l
  unfolding volume_bytes
  link_stored l there =
      let fills : FillsPair e (volume_bytes v) v.attributes (outlined_link l) = takes.outline.each (outlined_link l) (outline_there v l there)
      in
      record {
        stored = link_part (volume_bytes v) v.attributes (outlined_link l) (replicate 12 0);
        read = fills.part;
        others = map stored_entry (outlined_entries l.part.entries);
        entries = refl;
        stands = entries_stand (reading_of e) l.part.entries (entry_there l there);
        tail = refl;
        delta = sym fills.none;
        clean = All-contains (λ (p : Part). p.dirty ≡ false) (thread v.directories) l.part takes.clean (part_there v.directories l there);
      }

  -- ---- the superblock says the volume's size, count and limits

  says : SaysVolume v (volume_bytes v)
  says =
      let geometry = takes.disk.geometry in
      made_bytes_say v (omega (arith, takes.size, geometry.size_fits.1)) (omega (arith, takes.count, geometry.count_fits.1)) takes.limits

  pub volume_held : HoldsLinks (reading_of e) v
  volume_held =
      let same = takes.outline.but.disk in
      record {
        size = takes.size ∙ sym same.size;
        count = takes.count ∙ sym same.count;
        bytes = volume_bytes v;
        superblock = says;
        each = All-weaker (Contains (links v.directories)) (IsStored (reading_of e) (volume_bytes v) v.attributes) link_stored
            (links v.directories) (All-contains_itself (links v.directories));
      }

pub new_images_hold : FoundStay → ContentStays → HeldByLinksAreHeld → NewImagesHold
new_images_hold found content by_links d e v takes = record {
  holds = by_links (reading_of e) v takes.sound (volume_held found content d e v takes);
  filled = of_links (λ (p : Part). FirstIsFilled e.size (block_of e p.pair.0) (block_of e p.pair.1)) v.directories
      (λ l there. (takes.outline.each (outlined_link l) (outline_there v l there)).filled);
  contents = still_laid found content d e v takes;
  others = λ b none. takes.outline.but.others b (omega (arith, none, firsts_used b v));
}
