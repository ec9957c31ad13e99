-- What is made, one after another.
use Rattle.std.proofs.Common.{◌≡◌, ◌≢◌, ℕ, false, true, List, [], ◌∷◌, ◌++◌, Option, Result, Ok, Err, MatchResult, refl, ap, sym, subst, take, ◌∙◌, append_assoc, append-nil, inl, inr}
use Rattle.std.specs.Prelude.{is_err, is_ok, All, IfErr, OnOk}
use Rattle.std.proofs.lemmas.List.Elements.{All-append, All-cons, All-nil}
use Rattle.lfs_extract.specs.Extracted.{IsBegun, MakesFront, beginning}
use Rattle.lfs_extract.specs.declared.extract_fault.ExtractFault.{ExtractFault}
use Rattle.lfs_extract.specs.declared.extract_fault.ExtractFault.TheVariants.{Memory, HostName, CannotWrite}
use Rattle.lfs_extract.proofs.MakingLemmas.{IsOnWay, makes_nothing, makes_then, on_way}
use Rattle.lfs_host.specs.HostCall.{HostCall}
use Rattle.lfs_host.specs.NewFolder.{FileMade, FolderMade, Made, Makes}
use Rattle.lfs_host.specs.Scene.{HasRefused, KeepsRefusals, Notes, Scene}
use Rattle.lfs_salvage.specs.Below.{IsMadeBelow, MakesBelow}
use Rattle.lfs_salvage.specs.Saving.{MakesFirst, Saves, Stops}
use Rattle.lfs_salvage.specs.declared.unsaved.Unsaved.{Unsaved}

-- ---- in front of the rest

module _ (old mid : Option (List Made)) (here later complete : List Made) (h : IsOnWay old mid (here ++ later) complete) where
  -- one more is made
  pub way_more : (new : Option (List Made)) → Makes mid new here → IsOnWay old new later complete
  way_more new made = record {
    prefix = h.prefix ++ here;
    made = makes_then old mid new h.prefix here h.made made;
    all = append_assoc h.prefix here later ∙ h.all;
  }

  front_more : (new : Option (List Made)) → MakesFront mid new here → MakesFront old new complete
  front_more new f = record {
    prefix = h.prefix ++ f.prefix;
    next = f.next;
    rest = f.rest ++ later;
    begun = f.begun;
    split = append_assoc h.prefix f.prefix (f.next ∷ f.rest ++ later)
        ∙ ap (λ (xs : List Made). h.prefix ++ xs) (sym (append_assoc f.prefix (f.next ∷ f.rest) later) ∙ ap (λ (xs : List Made). xs ++ later) f.split)
        ∙ h.all;
    is_begun = f.is_begun;
    made = subst (Makes old new) (sym (append_assoc h.prefix f.prefix f.begun))
        (makes_then old mid new h.prefix (f.prefix ++ f.begun) h.made f.made);
  }

  first_more : (new : Option (List Made)) → MakesFirst mid new here → MakesFirst old new complete
  first_more new f = record {
    prefix = h.prefix ++ f.prefix;
    rest = f.rest ++ later;
    split = append_assoc h.prefix f.prefix (f.rest ++ later)
        ∙ ap (λ (xs : List Made). h.prefix ++ xs) (sym (append_assoc f.prefix f.rest later) ∙ ap (λ (xs : List Made). xs ++ later) f.split)
        ∙ h.all;
    made = makes_then old mid new h.prefix f.prefix h.made f.made;
  }

  -- or it ends
  pub stops : (fault : ExtractFault) (new : Option (List Made)) → Stops fault mid new here → Stops fault old new complete
  stops CannotWrite new f = front_more new f
  stops Memory new f = first_more new f
  stops HostName new f = f

-- memory is refused before anything more is made
pub way_stops : (old new : Option (List Made)) (rest complete : List Made) → IsOnWay old new rest complete → MakesFirst old new complete
way_stops old new rest complete h = record { prefix = h.prefix; rest = rest; split = h.all; made = h.made }

pub none_first : (old : Option (List Made)) (complete : List Made) → MakesFirst old old complete
none_first old complete = way_stops old old complete complete (on_way old complete)

-- the host refuses one, of which no more than a beginning is made
pub begun_front : (old new : Option (List Made)) (one : Made) (begun : List Made) → IsBegun one begun → Makes old new begun
    → MakesFront old new (one ∷ [])
begun_front old new one begun is made = record {
  prefix = [];
  next = one;
  rest = [];
  begun = begun;
  split = refl;
  is_begun = is;
  made = made;
}

pub none_front : (old new : Option (List Made)) (one : Made) → new ≡ old → MakesFront old new (one ∷ [])
none_front old new one same =
    begun_front old new one [] (inl refl) (subst (λ (x : Option (List Made)). Makes old x []) (sym same) (makes_nothing old))

-- ---- below a folder

module _ (top : List ℕ) where
  pub nothing_below : (old new : Option (List Made)) → new ≡ old → MakesBelow top old new
  nothing_below old new same = record {
    more = [];
    made = subst (λ (x : Option (List Made)). Makes old x []) (sym same) (makes_nothing old);
    below = All-nil (IsMadeBelow top);
  }

  pub one_below : (old new : Option (List Made)) (one : Made) → IsMadeBelow top one → Makes old new (one ∷ []) → MakesBelow top old new
  one_below old new one is made = record { more = one ∷ []; made = made; below = All-cons (IsMadeBelow top) one [] is (All-nil (IsMadeBelow top)) }

  beginning_below : (n : ℕ) (one : Made) → IsMadeBelow top one → All (IsMadeBelow top) (beginning n one)
  beginning_below n (FolderMade name) is = All-nil (IsMadeBelow top)
  beginning_below n (FileMade name bytes) is = All-cons (IsMadeBelow top) (FileMade name (take n bytes)) [] is (All-nil (IsMadeBelow top))

  all_begun : (one : Made) (begun : List Made) → IsMadeBelow top one → IsBegun one begun → All (IsMadeBelow top) begun
  all_begun one begun is (inl none) = subst (All (IsMadeBelow top)) (sym none) (All-nil (IsMadeBelow top))
  all_begun one begun is (inr (n, first)) = subst (All (IsMadeBelow top)) (sym first) (beginning_below n one is)

  pub begun_below : (old new : Option (List Made)) (one : Made) (begun : List Made) → IsMadeBelow top one → IsBegun one begun → Makes old new begun
      → MakesBelow top old new
  begun_below old new one begun is beginning made = record { more = begun; made = made; below = all_begun one begun is beginning }

  pub below_then : (a b c : Option (List Made)) → MakesBelow top a b → MakesBelow top b c → MakesBelow top a c
  below_then a b c p q = record {
    more = p.more ++ q.more;
    made = makes_then a b c p.more q.more p.made q.made;
    below = All-append (IsMadeBelow top) p.more q.more p.below q.below;
  }

-- ---- what is answered

-- it is told which of the two
pub ok_makes : {E : Type 0} (result : Result (Unit {0}) E) (old new : Option (List Made)) (one : Made) → true ≡ is_ok result
    → MatchResult result (λ _. Makes old new (one ∷ [])) (λ _. new ≡ old) → Makes old new (one ∷ [])
ok_makes (Ok done) old new one is made = made
ok_makes (Err fault) old new one is same = absurd (cc)

pub err_keeps : {E : Type 0} (result : Result (Unit {0}) E) (old new : Option (List Made)) (one : Made) → false ≡ is_ok result
    → MatchResult result (λ _. Makes old new (one ∷ [])) (λ _. new ≡ old) → new ≡ old
err_keeps (Ok done) old new one is made = absurd (cc)
err_keeps (Err fault) old new one is same = same

-- the host has refused it then
pub err_refused : {E : Type 0} (result : Result (Unit {0}) E) (call : HostCall) (old mid new : Scene) → false ≡ is_ok result
    → Notes call (is_err result) old mid → KeepsRefusals mid new → HasRefused new call
err_refused (Ok done) call old mid new is notes keeps = absurd (cc)
err_refused (Err fault) call old mid new is notes keeps = keeps call notes.0

-- what holds in any case holds if the host is blamed
pub blames : {T : Type 0} {P : Type 0} (result : Result T ExtractFault) → P → IfErr result (λ fault. fault ≡ CannotWrite → P)
blames (Ok value) is = tt
blames (Err fault) is = λ _. is

-- one is to be made, and it ends before that
pub nothing_stops : (fault : ExtractFault) (old new : Option (List Made)) (one : Made) → fault ≢ HostName → new ≡ old
    → Stops fault old new (one ∷ [])
nothing_stops CannotWrite old new one other same = none_front old new one same
nothing_stops Memory old new one other same =
    subst (λ (x : Option (List Made)). MakesFirst old x (one ∷ [])) (sym same) (none_first old (one ∷ []))
nothing_stops HostName old new one other same = absurd (other refl)

-- it ends in the first of two lists
pub stops_first : (fault : ExtractFault) (old new : Option (List Made)) (first second : List Made) → Stops fault old new first
    → Stops fault old new (first ++ second)
stops_first fault old new first second stop =
    stops old old first second (first ++ second) (on_way old (first ++ second)) fault new stop

-- some are made, and then it ends
pub then_stops : (fault : ExtractFault) (old mid new : Option (List Made)) (first second : List Made) → Makes old mid first
    → Stops fault mid new second → Stops fault old new (first ++ second)
then_stops fault old mid new first second made later =
    stops old mid second [] (first ++ second)
    (record { prefix = first; made = made; all = ap (λ (xs : List Made). first ++ xs) (append-nil second) }) fault new later

-- some are made, and then others
pub then_saves : {T : Type 0} (result : Result T ExtractFault) (old mid new : Option (List Made)) (first second : List Made)
    → Makes old mid first → Saves result mid new second → Saves result old new (first ++ second)
then_saves (Ok done) old mid new first second made later = makes_then old mid new first second made later
then_saves (Err fault) old mid new first second made later = then_stops fault old mid new first second made later

-- nothing is told
pub nothing_told : {T : Type 0} (result : Result T ExtractFault) (told : List Unsaved) → OnOk result (told ≡ told ++ [])
nothing_told (Ok value) told = sym (append-nil told)
nothing_told (Err fault) told = tt

-- nothing is to be made
pub nothing_saved : {T : Type 0} (result : Result T ExtractFault) (old : Option (List Made)) → IfErr result (λ fault. fault ≡ Memory)
    → Saves result old old []
nothing_saved (Ok value) old stop = makes_nothing old
nothing_saved (Err fault) old stop = subst (λ (f : ExtractFault). Stops f old old []) (sym stop) (none_first old [])
