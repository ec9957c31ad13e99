-- What holds a sound volume holds one with the same tree once it is tidied.
use Rattle.std.proofs.Common.{◌≡◌, ◌≢◌, ℕ, ◌≤◌, Bool, true, false, List, [], ◌∷◌, map, Option, Some, refl, ap, sym, ◌∙◌, subst, arith}
use Rattle.std.specs.Prelude.{All, Contains, sum_by}
use Rattle.std.proofs.lemmas.Option.{same_Some}
use Rattle.lfs_meta.specs.Body.{Pair}
use Rattle.lfs_meta.specs.Part.{StoredPart}
use Rattle.lfs_fs.specs.Directory.{Directory, thread}
use Rattle.lfs_fs.specs.Gathering.{PairPart, link_from}
use Rattle.lfs_fs.specs.Held.{link_at, link_of, volume_at}
use Rattle.lfs_fs.specs.Holds.{Holds, IsResolved}
use Rattle.lfs_fs.specs.Pair.{root}
use Rattle.lfs_fs.specs.Reading.{Reading, reading_of}
use Rattle.lfs_fs.specs.Sound.{IsSound}
use Rattle.lfs_fs.specs.State.{delta_of}
use Rattle.lfs_fs.specs.Superblock.{HasSuperblock, Header, header_of}
use Rattle.lfs_fs.specs.Thread.{Link, pieces}
use Rattle.lfs_fs.specs.Uses.{uses}
use Rattle.lfs_fs.specs.Volume.{Volume}
use Rattle.lfs_fs.proofs.ContainsLemmas.{contains_first, contains_later}
use Rattle.lfs_fs.proofs.CountLemmas.{part_uses, uses_at}
use Rattle.lfs_fs.proofs.GatheredLemmas.{state_is}
use Rattle.lfs_lower.specs.Joining.{parts_held}
use Rattle.lfs_lower.proofs.HeldAnew.{LawsBelow}
use Rattle.lfs_lower.proofs.PartsPut.{pairs_in}
use Rattle.lfs_settle.specs.InStep.{thread_pairs, thread_parts}
use Rattle.lfs_settle.specs.Settled.{with_parts}
use Rattle.lfs_settle.proofs.PartLists.{contains_of}
use Rattle.lfs_settle.proofs.SettledBlocks.{has_part}
use Rattle.lfs_settle.proofs.ThreadPairs.{thread_found}
use Rattle.lfs_settle.proofs.ThreadParts.{held_is, held_pair, links_are}
use Rattle.lfs_adopt.specs.Laws.{HoldsTheTreeOf, TidiedImagesKeepTheTree, TidiedKeepTheTree}
use Rattle.lfs_adopt.specs.Tidied.{can_tidy, tidied}
use Rattle.lfs_adopt.proofs.AlikeVolumes.{AreAlike, LooksLike, same_tree, sound_alike}
use Rattle.lfs_adopt.proofs.Filled.{first_stays, sum_mapped, sum_tidied, tidied_no_state, tidied_of}
use Rattle.lfs_adopt.proofs.FilledAlike.{made, tidied_alike}
use Rattle.lfs_adopt.proofs.TidiedBlocks.{left, left_once, left_thread, linked_if, no_state_if, tidied_is, untidied_is}
use Rattle.lfs_adopt.proofs.TidiedImage.{tidied_images_hold}

-- ---- links

-- other parts at pairs leave a part as the link that it is
links_stay : (r : Reading) (qs ps : List PairPart) → map (link_from (with_parts r qs)) ps ≡ map (link_from r) ps
links_stay r qs ps = refl

-- parts that pairs hold are the links of these
links_of_parts : (r : Reading) (ps : List PairPart) → ((q : PairPart) → Contains ps q → r.part q.0 ≡ Some q.1)
    → map (link_from r) ps ≡ map (link_at r) (pairs_in ps)
links_of_parts r [] all = refl
links_of_parts r (p ∷ ps) all =
    ap (λ (o : Option StoredPart). link_of r p.0 o ∷ map (link_from r) ps) (sym (all p (contains_first p ps)))
    ∙ ap (λ (ls : List Link). link_at r p.0 ∷ ls) (links_of_parts r ps (λ q there. all q (contains_later p ps q there)))

-- how often a part uses a block
abbrev part_use : Reading → ℕ → PairPart → ℕ
part_use r b p = part_uses b (link_from r p).part

-- and links do
abbrev links_use : ℕ → List Link → ℕ
links_use b ls = sum_by (λ (l : Link). part_uses b l.part) ls

-- ---- a volume that is held

module _ (r : Reading) (v : Volume) (h : Holds r v) (can : can_tidy r ≡ true) where
  -- the parts along the thread
  abbrev along : List PairPart
  along = thread_parts r

  -- the reading once it is tidied
  abbrev now : Reading
  now = with_parts r (left r)

  abbrev header : Header
  header = header_of h.bytes h.attributes

  -- the volume that is held then
  abbrev volume : Volume
  volume = volume_at now header (pairs_in (left r))

  found_pairs : h.pairs ≡ thread_pairs r
  found_pairs = thread_found r h.pairs h.is_thread

  old_links : map (link_at r) h.pairs ≡ map (link_from r) along
  old_links =
      sym (links_are r h.pairs h.is_thread.parts)
      ∙ ap (λ (ps : List Pair). map (link_from r) (parts_held r ps)) found_pairs

  new_links : map (link_at now) (pairs_in (left r)) ≡ map (link_from r) (left r)
  new_links =
      sym (links_of_parts now (left r) (has_part r (left r) (left_once r))) ∙ links_stay r (left r) (left r)

  old_directories : v.directories ≡ made r along
  old_directories = ap (λ (x : Volume). x.directories) h.is ∙ ap pieces old_links

  new_directories : volume.directories ≡ made r (left r)
  new_directories = ap pieces new_links

  -- ---- the superblock

  superblock : HasSuperblock now h.bytes h.attributes
  superblock =
      let first = first_stays root along (linked_if r can).first in
      let part : StoredPart = record { entries = first.part.1.entries; tail = first.tail; delta = first.delta } in
      let same : first.part.1 ≡ h.superblock.part =
      same_Some first.part.1 h.superblock.part
      (sym (held_is r (thread_pairs r) first.part first.there) ∙ ap r.part first.at ∙ h.superblock.read) in
      record {
        part = part;
        read = ap now.part (sym first.at) ∙ has_part r (left r) (left_once r) (first.part.0, part) first.stays;
        others = h.superblock.others;
        is = ap (λ (x : StoredPart). x.entries) same ∙ h.superblock.is;
        len = h.superblock.len;
      }

  -- ---- entries

  later_resolved : (p : Pair) (s : StoredPart) → Contains (pairs_in (left r)) p → p ≢ root → now.part p ≡ Some s
      → All (IsResolved r) s.entries
  later_resolved p s there other read =
      let q = contains_of (λ (x : PairPart). x.0) (left r) p there in
      let of = tidied_of along q.0 q.1 in
      let same : q.0.1 ≡ s = same_Some q.0.1 s (sym (has_part r (left r) (left_once r) q.0 q.1) ∙ ap now.part q.2 ∙ read) in
      let before : All (IsResolved r) of.part.1.entries =
      h.resolved_later of.part.0 of.part.1
      (subst (λ (ps : List Pair). Contains ps of.part.0) (sym found_pairs) (held_pair r (thread_pairs r) of.part of.there))
      (λ is. other (sym q.2 ∙ sym of.pair ∙ is)) (held_is r (thread_pairs r) of.part of.there) in
      subst (λ (x : StoredPart). All (IsResolved r) x.entries) same (subst (All (IsResolved r)) of.entries before)

  holds_now : Holds now volume
  unfolding superblock
  holds_now = record {
    pairs = pairs_in (left r);
    is_thread = left_thread r can;
    bytes = h.bytes;
    attributes = h.attributes;
    superblock = superblock;
    version = h.version;
    size = h.size;
    count = h.count;
    limits = h.limits;
    resolved = h.resolved;
    resolved_later = later_resolved;
    is = refl;
  }

  -- ---- what it looks like

  old_uses : (b : ℕ) → uses b v ≡ sum_by (part_use r b) along
  old_uses b =
      ap (uses b) h.is
      ∙ uses_at r header b h.pairs
      ∙ ap (links_use b) old_links
      ∙ sum_mapped (λ (l : Link). part_uses b l.part) (link_from r) along

  new_uses : (b : ℕ) → uses b volume ≡ sum_by (part_use r b) (left r)
  new_uses b =
      uses_at now header b (pairs_in (left r))
      ∙ ap (links_use b) new_links
      ∙ sum_mapped (λ (l : Link). part_uses b l.part) (link_from r) (left r)

  like : LooksLike v volume
  like = record {
    directories = subst (λ (ds : List Directory). AreAlike ds volume.directories) (sym old_directories)
        (subst (AreAlike (made r along)) (sym new_directories) (tidied_alike r along));
    count = sym (ap (λ (x : Volume). x.count) h.is);
    limits = sym (ap (λ (x : Volume). x.limits) h.is);
    attributes = sym (ap (λ (x : Volume). x.attributes) h.is);
    fewer = λ b.
        let fewer : sum_by (part_use r b) (left r) ≤ sum_by (part_use r b) along =
        sum_tidied (part_use r b) (record { same = λ p tail delta. refl }) along in
        omega (arith, old_uses b, new_uses b, fewer);
    state =
        ap (λ (ds : List Directory). delta_of (thread ds)) new_directories
        ∙ state_is r (left r)
        ∙ tidied_no_state along (no_state_if r can);
  }

  kept_now : IsSound v → HoldsTheTreeOf now v
  kept_now sound = record {
    volume = volume;
    holds = holds_now;
    sound = sound_alike v volume like sound;
    same = record {
      at = same_tree v volume like;
      size = sym (ap (λ (x : Volume). x.size) h.is);
      count = like.count;
      limits = like.limits;
      attributes = like.attributes;
    };
  }

kept_itself : (r : Reading) (v : Volume) → IsSound v → Holds r v → HoldsTheTreeOf r v
kept_itself r v sound h = record {
  volume = v;
  holds = h;
  sound = sound;
  same = record { at = λ path. refl; size = refl; count = refl; limits = refl; attributes = refl };
}

kept_by : (r : Reading) (v : Volume) (t : Bool) → can_tidy r ≡ t → IsSound v → Holds r v → HoldsTheTreeOf (tidied r) v
kept_by r v true can sound h = subst (λ (q : Reading). HoldsTheTreeOf q v) (sym (tidied_is r can)) (kept_now r v h can sound)
kept_by r v false can sound h = subst (λ (q : Reading). HoldsTheTreeOf q v) (sym (untidied_is r can)) (kept_itself r v sound h)

pub tidied_keep : TidiedKeepTheTree
tidied_keep r v sound h = kept_by r v (can_tidy r) refl sound h

pub tidied_images_keep : LawsBelow → TidiedImagesKeepTheTree
tidied_images_keep laws d e v disk is sound h =
    let kept = tidied_keep (reading_of d) v sound h in
    record {
      volume = kept.volume;
      holds = (tidied_images_hold laws d e kept.volume disk is kept.sound).1 kept.holds;
      sound = kept.sound;
      same = kept.same;
    }
