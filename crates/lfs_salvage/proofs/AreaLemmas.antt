-- What is saved of an area, entry by entry and call by call.
use Rattle.std.proofs.Common.{◌≡◌, ℕ, ◌+◌, ◌<◌, List, [], ◌∷◌, ◌++◌, Option, length, get_or, drop, refl, ap, sym, subst, ◌∙◌, append_assoc, append-nil}
use Rattle.std.proofs.lemmas.List.{at_drop_more}
use Rattle.lfs_block.specs.Disk.{Disk}
use Rattle.lfs_extract.proofs.MakingLemmas.{IsOnWay, all_way, makes_then, on_way}
use Rattle.lfs_extract.specs.declared.extract_fault.ExtractFault.{ExtractFault}
use Rattle.lfs_host.specs.NewFolder.{Made, Makes}
use Rattle.lfs_meta.specs.Body.{Pair}
use Rattle.lfs_meta.specs.Entry.{StoredEntry}
use Rattle.lfs_meta.specs.Part.{StoredPart}
use Rattle.lfs_salvage.specs.AreaMade.{call_made, call_unsaved, calls_made, calls_unsaved, calls_uses, entries_made, entries_unsaved, entries_uses, entry_made, entry_unsaved, uses_by_entry, folder_made, folder_of, folder_unsaved, found_made, found_unsaved, found_uses, call_parent}
use Rattle.lfs_salvage.specs.CallWords.{CallWords}
use Rattle.lfs_salvage.specs.Folder.{folder_at, way_at}
use Rattle.lfs_salvage.specs.declared.block_use.BlockUse.{BlockUse}
use Rattle.lfs_salvage.specs.declared.unsaved.Unsaved.{Unsaved}
use Rattle.lfs_salvage.specs.declared.wording.Wording.{Wording}
use Rattle.lfs_salvage.specs.Saving.{MakesFirst, Stops}
use Rattle.lfs_salvage.proofs.SavingLemmas.{stops, stops_first, then_stops, way_more, way_stops}
use Rattle.lfs_survey.specs.declared.area.Area.{Area}
use Rattle.lfs_survey.specs.declared.found.Found.{Found}
use Rattle.lfs_survey.specs.declared.found.Found.TheVariants.{Part}
use Rattle.lfs_survey.specs.declared.way.Way.{Way}

-- what is to be made, what blocks are used for then, and the entries that aren't saved
pub record Plan : Type 0 where
  pub made : List Made
  pub uses : List BlockUse
  pub unsaved : List Unsaved

-- what comes first, and then the rest
abbrev pub plan_then : List Made → List Unsaved → Plan → Plan
plan_then made told rest = record { made = made ++ rest.made; uses = rest.uses; unsaved = told ++ rest.unsaved }

-- the first of a plan is done, and the rest is left
pub record IsUnderWay (old now : Option (List Made)) (before told : List Unsaved) (left complete : Plan) : Type 0 where
  pub way : IsOnWay old now left.made complete.made
  pub uses : left.uses ≡ complete.uses
  pub unsaved : told ++ left.unsaved ≡ before ++ complete.unsaved

pub begun : (old : Option (List Made)) (before : List Unsaved) (complete : Plan) → IsUnderWay old old before before complete complete
begun old before complete = record { way = on_way old complete.made; uses = refl; unsaved = refl }

-- one more is done
pub done_more : (old mid new : Option (List Made)) (before told more here' : List Unsaved) (here : List Made) (rest complete : Plan)
    → IsUnderWay old mid before told (plan_then here here' rest) complete → Makes mid new here → more ≡ told ++ here'
    → IsUnderWay old new before more rest complete
done_more old mid new before told more here' here rest complete h made is = record {
  way = way_more old mid here rest.made complete.made h.way new made;
  uses = h.uses;
  unsaved = ap (λ (xs : List Unsaved). xs ++ rest.unsaved) is ∙ append_assoc told here' rest.unsaved ∙ h.unsaved;
}

-- or it ends at what comes next
stopped : (old mid new : Option (List Made)) (before told here' : List Unsaved) (here : List Made) (rest complete : Plan)
    → IsUnderWay old mid before told (plan_then here here' rest) complete → (fault : ExtractFault) → Stops fault mid new here
    → Stops fault old new complete.made
stopped old mid new before told here' here rest complete h fault stop = stops old mid here rest.made complete.made h.way fault new stop

-- ---- the words that entries get

-- some is done, whichever words what is left will get; what is done has these
pub record IsDoing {N : Type 0} (old now : Option (List Made)) (before told : List Unsaved) (left complete : List N → Plan) : Type 0 where
  pub words : List N
  pub doing : (rest : List N) → IsUnderWay old now before told (left rest) (complete (words ++ rest))

pub nothing_done : {N : Type 0} (old : Option (List Made)) (before : List Unsaved) (complete : List N → Plan)
    → IsDoing old old before before complete complete
nothing_done old before complete = record { words = []; doing = λ rest. begun old before (complete rest) }

module _ {N : Type 0} (old mid : Option (List Made)) (before told : List Unsaved) (left complete : List N → Plan)
    (h : IsDoing old mid before told left complete) (n : N) (here : List Made) (here' : List Unsaved) (next : List N → Plan)
    (is : (rest : List N) → left (n ∷ rest) ≡ plan_then here here' (next rest)) where
  come_to : (rest : List N) → IsUnderWay old mid before told (plan_then here here' (next rest)) (complete ((h.words ++ n ∷ []) ++ rest))
  come_to rest =
      subst (λ (ns : List N). IsUnderWay old mid before told (plan_then here here' (next rest)) (complete ns))
      (sym (append_assoc h.words (n ∷ []) rest))
      (subst (λ (p : Plan). IsUnderWay old mid before told p (complete (h.words ++ n ∷ rest))) (is rest) (h.doing (n ∷ rest)))

  -- one more is done
  pub doing_more : (new : Option (List Made)) (more : List Unsaved) → Makes mid new here → more ≡ told ++ here'
      → IsDoing old new before more next complete
  doing_more new more made tells = record {
    words = h.words ++ n ∷ [];
    doing = λ rest. done_more old mid new before told more here' here (next rest) (complete ((h.words ++ n ∷ []) ++ rest)) (come_to rest)
        made tells;
  }

  -- or it ends there
  pub doing_stops : (new : Option (List Made)) (fault : ExtractFault) → Stops fault mid new here
      → (words : List N) × Stops fault old new (complete words).made
  doing_stops new fault stop = (
    (h.words ++ n ∷ []) ++ [],
    stopped old mid new before told here' here (next []) (complete ((h.words ++ n ∷ []) ++ [])) (come_to []) fault stop,
  )

-- or where memory is refused
pub doing_first : {N : Type 0} (old now : Option (List Made)) (before told : List Unsaved) (left complete : List N → Plan)
    → IsDoing old now before told left complete → (words : List N) × MakesFirst old now (complete words).made
doing_first old now before told left complete h =
    let doing = h.doing [] in
    (h.words ++ [], way_stops old now (left []).made (complete (h.words ++ [])).made doing.way)

-- all is done
module _ {N : Type 0} (old new : Option (List Made)) (before told : List Unsaved) (left complete : List N → Plan)
    (none : (left []).made ≡ []) (nothing : (left []).unsaved ≡ []) (h : IsDoing old new before told left complete) where
  all_told : told ≡ before ++ (complete (h.words ++ [])).unsaved
  all_told =
      sym (append-nil told) ∙ ap (λ (xs : List Unsaved). told ++ xs) (sym nothing) ∙ (h.doing []).unsaved

  pub all_done : (words : List N) × (Makes old new (complete words).made × (told ≡ before ++ (complete words).unsaved))
  all_done =
      let made : Makes old new (complete (h.words ++ [])).made =
      all_way old new (complete (h.words ++ [])).made
      (subst (λ (xs : List Made). IsOnWay old new xs (complete (h.words ++ [])).made) none (h.doing []).way) in
      (h.words ++ [], (made, all_told))

-- ---- entries

abbrev pub entries_plan : Disk → List ℕ → ℕ → List BlockUse → ℕ → ℕ → ℕ → List StoredEntry → List (Option Wording) → Plan
entries_plan d folder block uses area call index es words = record {
  made = entries_made d folder words block uses area call index es;
  uses = entries_uses d uses area call index es;
  unsaved = entries_unsaved d words uses area call index es;
}

-- an entry and the rest
pub entries_more : (d : Disk) (folder : List ℕ) (block : ℕ) (uses : List BlockUse) (area call i : ℕ) (es : List StoredEntry)
    (e : StoredEntry) (n : Option Wording) (rest : List (Option Wording)) → i < length es → e ≡ get_or es i e
    → entries_plan d folder block uses area call i (drop i es) (n ∷ rest)
    ≡ plan_then (entry_made d folder block i n uses e) (entry_unsaved d (call_parent area call i) n uses e)
    (entries_plan d folder block (uses_by_entry d uses (call_parent area call i) e) area call (i + 1) (drop (i + 1) es) rest)
entries_more d folder block uses area call i es e n rest within is =
    at_drop_more (λ (xs : List StoredEntry). entries_plan d folder block uses area call i xs (n ∷ rest)) es i e within
    ∙ ap (λ (x : StoredEntry). plan_then (entry_made d folder block i n uses x) (entry_unsaved d (call_parent area call i) n uses x)
    (entries_plan d folder block (uses_by_entry d uses (call_parent area call i) x) area call (i + 1) (drop (i + 1) es) rest)) (sym is)

-- ---- calls

abbrev pub calls_plan : Disk → List ℕ → Area → ℕ → ℕ → List (List ℕ) → List BlockUse → List Found → List CallWords → Plan
calls_plan d base a area call folders uses fs words = record {
  made = calls_made d base a area call folders words uses fs;
  uses = calls_uses d uses area call fs;
  unsaved = calls_unsaved d a area call words uses fs;
}

-- what is found at a call and the rest
pub calls_more : (d : Disk) (base : List ℕ) (a : Area) (area i : ℕ) (folders : List (List ℕ)) (uses : List BlockUse) (fs : List Found)
    (f : Found) (n : CallWords) (rest : List CallWords) → i < length fs → f ≡ get_or fs i f
    → calls_plan d base a area i folders uses (drop i fs) (n ∷ rest)
    ≡ plan_then (call_made d base a area i folders n uses f) (call_unsaved d a area i n uses f)
    (calls_plan d base a area (i + 1) (folders ++ folder_of base a folders n.folder i f ∷ []) (found_uses d uses area i f) (drop (i + 1) fs) rest)
calls_more d base a area i folders uses fs f n rest within is =
    at_drop_more (λ (xs : List Found). calls_plan d base a area i folders uses xs (n ∷ rest)) fs i f within
    ∙ ap (λ (x : Found). plan_then (call_made d base a area i folders n uses x) (call_unsaved d a area i n uses x)
    (calls_plan d base a area (i + 1) (folders ++ folder_of base a folders n.folder i x ∷ []) (found_uses d uses area i x) (drop (i + 1) fs) rest))
    (sym is)

-- ---- one call

module _ (d : Disk) (base : List ℕ) (a : Area) (number call : ℕ) (folders : List (List ℕ)) (uses : List BlockUse) (f : Found)
    (p : Pair × StoredPart) (is : f ≡ Part p) (way : Way) (found : List Found) (by_way : way ≡ way_at a.calls.items call)
    (same : found ≡ a.found.items) where
  -- the folder of a part that is found
  pub folder_is : (word : Option Wording) → folder_at base found folders word way ≡ folder_of base a folders word call f
  folder_is word =
      ap (λ (fs : List Found). folder_at base fs folders word way) same ∙ ap (folder_at base a.found.items folders word) by_way
      ∙ sym (ap (λ (x : Found). folder_of base a folders word call x) is)

  -- what is made of it
  call_is : (words : CallWords) (name : List ℕ) (es : List StoredEntry) → name ≡ folder_at base found folders words.folder way
      → es ≡ p.1.entries → folder_made way words.folder name ++ entries_made d name words.entries p.0.0 uses number call 0 es
      ≡ call_made d base a number call folders words uses f
  call_is words name es named are =
      ap (λ (xs : List StoredEntry). folder_made way words.folder name ++ entries_made d name words.entries p.0.0 uses number call 0 xs) are
      ∙ ap (λ (w : Way). found_made d w name words uses number call (Part p)) by_way
      ∙ ap (λ (n : List ℕ). found_made d (way_at a.calls.items call) n words uses number call (Part p))
      (named ∙ folder_is words.folder)
      ∙ sym (ap (λ (x : Found). found_made d (way_at a.calls.items call) (folder_of base a folders words.folder call f) words uses number call x) is)

  -- what isn't saved of it
  pub unsaved_is : (words : CallWords) (es : List StoredEntry) → es ≡ p.1.entries
      → folder_unsaved number way words.folder ++ entries_unsaved d words.entries uses number call 0 es ≡ call_unsaved d a number call words uses f
  unsaved_is words es are =
      ap (λ (xs : List StoredEntry). folder_unsaved number way words.folder ++ entries_unsaved d words.entries uses number call 0 xs) are
      ∙ ap (λ (w : Way). found_unsaved d w words uses number call (Part p)) by_way
      ∙ sym (ap (λ (x : Found). call_unsaved d a number call words uses x) is)

  -- its folder is refused, or its text
  pub start_stops : (word : Option Wording) (old new : Option (List Made)) (fault : ExtractFault)
      → Stops fault old new (folder_made way word (folder_at base found folders word way))
      → (ws : CallWords) × Stops fault old new (call_made d base a number call folders ws uses f)
  start_stops word old new fault stop =
      let name : List ℕ = folder_at base found folders word way in
      let ws : CallWords = record { folder = word; entries = [] } in (
        ws,
        subst (λ (m : List Made). Stops fault old new m) (call_is ws name p.1.entries refl refl)
            (stops_first fault old new (folder_made way word name) (entries_made d name [] p.0.0 uses number call 0 p.1.entries) stop),
      )

  module _ (ws : CallWords) (name : List ℕ) (named : name ≡ folder_at base found folders ws.folder way) (es : List StoredEntry)
      (are : es ≡ p.1.entries) (old mid new : Option (List Made))
      (begun : Makes old mid (folder_made way ws.folder (folder_at base found folders ws.folder way))) where
    begun_here : Makes old mid (folder_made way ws.folder name)
    begun_here = subst (λ (n : List ℕ). Makes old mid (folder_made way ws.folder n)) (sym named) begun

    -- an entry is, or memory
    pub entries_stop : (fault : ExtractFault) → Stops fault mid new (entries_made d name ws.entries p.0.0 uses number call 0 es)
        → Stops fault old new (call_made d base a number call folders ws uses f)
    entries_stop fault stop =
        subst (λ (m : List Made). Stops fault old new m) (call_is ws name es named are)
        (then_stops fault old mid new (folder_made way ws.folder name) (entries_made d name ws.entries p.0.0 uses number call 0 es) begun_here stop)

    -- all of it is made
    pub entries_done : Makes mid new (entries_made d name ws.entries p.0.0 uses number call 0 es)
        → Makes old new (call_made d base a number call folders ws uses f)
    entries_done made =
        subst (λ (m : List Made). Makes old new m) (call_is ws name es named are)
        (makes_then old mid new (folder_made way ws.folder name) (entries_made d name ws.entries p.0.0 uses number call 0 es) begun_here made)
