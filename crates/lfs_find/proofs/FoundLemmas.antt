-- What is found at a place, and what is found from byte to byte.
use Rattle.std.proofs.Common.{◌≡◌, ℕ, suc, ◌+◌, ◌-◌, ◌<◌, ◌≤◌, Bool, true, false, List, [], ◌++◌, length, Option, Result, Ok, Err, IfOk, refl, ap, ap₂, subst, sym, ◌∙◌, arith, append_assoc, append-nil}
use Rattle.std.specs.Prelude.{MatchBool, option_to_list}
use Rattle.lfs_block.specs.Disk.{Disk, IsDisk, image_of}
use Rattle.lfs_block.proofs.BytesLemmas.{image_of_disk}
use Rattle.lfs_find.specs.Found.{AreFound, AreFoundIn, IsFoundAt, IsLooked, IsReadAt, IsVerdict, looks_at}
use Rattle.lfs_find.specs.Sizes.{sizes_stated}
use Rattle.lfs_find.specs.declared.found.Found.{Found}
use Rattle.lfs_find.specs.declared.place.Place.{Place}
use Rattle.lfs_find.specs.declared.search.Search.{Search}

-- ---- what is found at one place

-- the image that was made of bytes is the one that they are
pub image_is : (d : Disk) (size : ℕ) (bytes : List ℕ) → IsDisk d → d.size ≡ size → d.bytes ≡ bytes → image_of size bytes ≡ d
image_is d size bytes is sizes same = ap₂ image_of (sym sizes) (sym same) ∙ image_of_disk d is

there : (bytes : List ℕ) (place : Place) (image : List ℕ) (d : Disk) (found : Found) → IsReadAt bytes place image
    → image_of place.size image ≡ d → found.place ≡ place → IsVerdict d found.fault → IsFoundAt bytes found
there bytes place image d found read disk same verdict =
    let disk_there : image_of found.place.size image ≡ d = ap (λ (p : Place). image_of p.size image) same ∙ disk in
    record {
      image = image;
      read = subst (λ (p : Place). IsReadAt bytes p image) (sym same) read;
      verdict = subst (λ (x : Disk). IsVerdict x found.fault) (sym disk_there) verdict;
    }

-- an image that was read there was judged
pub found_there : {E : Type 0} (bytes : List ℕ) (place : Place) (image : List ℕ) (d : Disk) (result : Result Found E) → IsReadAt bytes place image
    → image_of place.size image ≡ d → IfOk result (λ found. found.place ≡ place) → IfOk result (λ found. IsVerdict d found.fault)
    → IfOk result (λ found. IsFoundAt bytes found)
found_there bytes place image d (Ok found) read disk same verdict = there bytes place image d found read disk same verdict
found_there bytes place image d (Err e) read disk same verdict = tt

-- ---- from byte to byte

module _ (bytes : List ℕ) where
  -- so many are found, and what is found from a byte on is what is found behind them
  abbrev pub GoesOn : List Found → ℕ → Search → Type 0
  GoesOn found at s =
      (more : List Found) → AreFoundIn bytes (sizes_stated bytes) (length bytes - at) s more → AreFound bytes (found ++ more)

  -- one byte more, whether it is looked at or not
  byte_more : (at : ℕ) (s : Search) (found : List Found) → at < length bytes
      → MatchBool (looks_at bytes s at)
      ((here : Option Found) × (behind : Search) × IsLooked bytes (sizes_stated bytes) s at here behind
      × (more : List Found) × (found ≡ option_to_list here ++ more)
      × AreFoundIn bytes (sizes_stated bytes) (length bytes - (at + 1)) behind more)
      (AreFoundIn bytes (sizes_stated bytes) (length bytes - (at + 1)) s found)
      → AreFoundIn bytes (sizes_stated bytes) (length bytes - at) s found
  byte_more at s found within are =
      let next : length bytes - at ≡ suc (length bytes - (at + 1)) = omega arith in
      let here_is : length bytes - suc (length bytes - (at + 1)) ≡ at = omega arith in
      subst (λ (n : ℕ). AreFoundIn bytes (sizes_stated bytes) n s found) (sym next)
      (subst (λ (x : ℕ). MatchBool (looks_at bytes s x)
      ((here : Option Found) × (behind : Search) × IsLooked bytes (sizes_stated bytes) s x here behind
      × (more : List Found) × (found ≡ option_to_list here ++ more)
      × AreFoundIn bytes (sizes_stated bytes) (length bytes - (at + 1)) behind more)
      (AreFoundIn bytes (sizes_stated bytes) (length bytes - (at + 1)) s found)) (sym here_is) are)

  at_true : (b : Bool) (A B : Type 0) → b ≡ true → A → MatchBool b A B
  at_true true A B e a = a
  at_true false A B e a = absurd cc

  at_false : (b : Bool) (A B : Type 0) → b ≡ false → B → MatchBool b A B
  at_false true A B e a = absurd cc
  at_false false A B e a = a

  -- a byte that is looked at
  pub looked_more : (found : List Found) (at : ℕ) (s : Search) (here : Option Found) (behind : Search) → at < length bytes → GoesOn found at s
      → looks_at bytes s at ≡ true → IsLooked bytes (sizes_stated bytes) s at here behind → GoesOn (found ++ option_to_list here) (at + 1) behind
  looked_more found at s here behind within on looks is more are =
      subst (AreFound bytes) (sym (append_assoc found (option_to_list here) more))
      (on (option_to_list here ++ more) (byte_more at s (option_to_list here ++ more) within
      (at_true (looks_at bytes s at) _ _ looks (here, behind, is, more, refl, are))))

  -- and one that isn't
  pub passed_more : (found : List Found) (at : ℕ) (s : Search) → at < length bytes → GoesOn found at s → looks_at bytes s at ≡ false
      → GoesOn found (at + 1) s
  passed_more found at s within on looks more are =
      on more (byte_more at s more within (at_false (looks_at bytes s at) _ _ looks are))

  -- no byte is left
  pub all_found : (found : List Found) (at : ℕ) (s : Search) → length bytes ≤ at → GoesOn found at s → AreFound bytes found
  all_found found at s behind on =
      let none_left : length bytes - at ≡ 0 = omega arith in
      subst (AreFound bytes) (append-nil found)
      (on [] (subst (λ (n : ℕ). AreFoundIn bytes (sizes_stated bytes) n s []) (sym none_left) refl))
