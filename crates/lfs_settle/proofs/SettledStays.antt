-- A sound volume that an image holds stays once the image is settled.
use Rattle.std.proofs.Common.{◌≡◌, Bool, true, false, List, [], Option, Some, None, get_or, refl, ap, sym, ◌∙◌, subst}
use Rattle.std.specs.Prelude.{All, Contains, find, if◌then◌else◌, option_map}
use Rattle.std.specs.Option.{option_or}
use Rattle.std.proofs.lemmas.List.Elements.{All-contains_itself, All-weaker}
use Rattle.lfs_meta.specs.Body.{Pair, StoredBody, Inline, Chain, Directory_at}
use Rattle.lfs_fs.specs.Pair.{root, same_pair}
use Rattle.lfs_fs.specs.Alike.{PairsAreOfParts, ReadAlike, SameAt, SameReadingsHoldTheSame}
use Rattle.lfs_fs.specs.Directory.{Directory, thread}
use Rattle.lfs_fs.specs.Front.{next_pair, tail_of}
use Rattle.lfs_fs.specs.Gathering.{PairPart, delta_from}
use Rattle.lfs_fs.specs.Holds.{Holds}
use Rattle.lfs_fs.specs.Reading.{Reading}
use Rattle.lfs_fs.specs.Sound.{IsSound}
use Rattle.lfs_fs.specs.State.{delta_of}
use Rattle.lfs_fs.specs.Thread.{Link, pieces}
use Rattle.lfs_fs.specs.Volume.{Volume}
use Rattle.lfs_fs.proofs.EntryAtLemmas.{found}
use Rattle.lfs_fs.proofs.GatheredLemmas.{state_is}
use Rattle.lfs_fs.proofs.PairLemmas.{same_pair-is}
use Rattle.lfs_lower.specs.Joining.{parts_held}
use Rattle.lfs_lower.proofs.LongestFronts.{AgreeAt}
use Rattle.lfs_lower.proofs.PairsAlong.{along_alike}
use Rattle.lfs_settle.specs.InStep.{in_step, pairs_named, stepped_part, thread_pairs, thread_parts}
use Rattle.lfs_settle.specs.Laws.{AreLinked, SettledStays}
use Rattle.lfs_settle.specs.Reached.{groups}
use Rattle.lfs_settle.specs.Settled.{can_settle, settled, settled_parts, with_parts}
use Rattle.lfs_settle.proofs.DirectoriesOfGroups.{all_reached, directories_from, pieces_are}
use Rattle.lfs_settle.proofs.InStepStays.{directories_are, named_along, part_in_step}
use Rattle.lfs_settle.proofs.SettledThread.{groups_directories, settled_stay}
use Rattle.lfs_settle.proofs.ThreadPairs.{thread_found}
use Rattle.lfs_settle.proofs.ThreadParts.{held_alike, held_is, linked_along, links_are}

-- ---- parts that pairs hold change nothing

among_by : (r : Reading) (ps : List Pair) (p : Pair) (o : Option PairPart) → find (λ q. same_pair p q.0) (parts_held r ps) ≡ o
    → option_or (option_map (λ (q : PairPart). q.1) o) (r.part p) ≡ r.part p
among_by r ps p None at = refl
among_by r ps p (Some q) at =
    let f = found (λ (x : PairPart). same_pair p x.0) (parts_held r ps) q at in
    sym (held_is r ps q f.0) ∙ ap r.part (sym (same_pair-is p q.0 f.1))

body_alike : (r : Reading) (ps : List PairPart) (body : StoredBody) → ReadAlike r (with_parts r ps) body
body_alike r ps (Inline bytes) = tt
body_alike r ps (Chain head size) = (refl, λ blocks is. refl)
body_alike r ps (Directory_at first second) = tt

same_everywhere : (r : Reading) (ps : List Pair) (p : Pair) → SameAt r (with_parts r (parts_held r ps)) p
same_everywhere r ps p = record {
  part = among_by r ps p (find (λ (q : PairPart). same_pair p q.0) (parts_held r ps)) refl;
  bodies = λ s is i d within. body_alike r (parts_held r ps) (get_or s.entries i d).body;
}

-- ---- a sound volume

module _ (pairs : PairsAreOfParts) (r : Reading) (v : Volume) (sound : IsSound v) (h : Holds r v) where
  found_pairs : h.pairs ≡ thread_pairs r
  found_pairs = thread_found r h.pairs h.is_thread

  same_named : pairs_named (thread_parts r) ≡ named_along pairs r v sound h
  same_named = ap (λ (ps : List Pair). pairs_named (parts_held r ps)) (sym found_pairs)

  in_step_agrees : AgreeAt r (in_step r) h.pairs
  in_step_agrees p there =
      ap (λ (named : List Pair). option_map (stepped_part named) (r.part p)) same_named
      ∙ part_in_step pairs r v sound h p (r.part p) there refl

  pairs_in_step : thread_pairs (in_step r) ≡ h.pairs
  pairs_in_step =
      along_alike (next_pair r) (next_pair (in_step r)) r.count [] r.count (Some root)
      (λ p there. ap tail_of (in_step_agrees p (subst (λ (ps : List Pair). Contains ps p) (sym found_pairs) there)))
      ∙ sym found_pairs

  -- the parts of the thread
  abbrev held : List PairPart
  held = parts_held r h.pairs

  parts_in_step : thread_parts (in_step r) ≡ held
  parts_in_step = ap (parts_held (in_step r)) pairs_in_step ∙ held_alike r (in_step r) h.pairs in_step_agrees

  held_linked : AreLinked held
  held_linked = (linked_along r (Some root) h.pairs h.is_thread.parts h.is_thread.front.follow h.is_thread.ends).linked

  held_links : v.directories ≡ directories_from r (groups held)
  held_links =
      directories_are pairs r v sound h ∙ ap pieces (sym (links_are r h.pairs h.is_thread.parts)) ∙ pieces_are r held

  held_state : delta_from held ≡ 0
  held_state =
      sym (state_is r held)
      ∙ ap (λ (ls : List Link). delta_of (thread (pieces ls))) (links_are r h.pairs h.is_thread.parts)
      ∙ ap (λ (ds : List Directory). delta_of (thread ds)) (sym (directories_are pairs r v sound h))
      ∙ sound.settled

  held_stay : settled_parts held ≡ held
  held_stay =
      settled_stay held held_state held_linked
      (all_reached r (groups held) v held_links (groups_directories held held_linked) sound.reached)

  settled_is : settled r ≡ (if can_settle r (in_step r) then with_parts r held else r)
  settled_is =
      ap (λ (ps : List PairPart). if can_settle r (in_step r) then with_parts r ps else r) (ap settled_parts parts_in_step ∙ held_stay)

  holds_by : SameReadingsHoldTheSame → (t : Bool) → Holds (if t then with_parts r held else r) v
  holds_by same true =
      same r (with_parts r held) v refl refl
      (subst (All (SameAt r (with_parts r held))) (pairs r v h)
      (All-weaker (Contains h.pairs) (SameAt r (with_parts r held)) (λ p there. same_everywhere r h.pairs p) h.pairs
      (All-contains_itself h.pairs))) h
  holds_by same false = h

pub settled_stays : PairsAreOfParts → SameReadingsHoldTheSame → SettledStays
settled_stays pairs same r v sound h =
    subst (λ (q : Reading). Holds q v) (sym (settled_is pairs r v sound h))
    (holds_by pairs r v sound h same (can_settle r (in_step r)))
