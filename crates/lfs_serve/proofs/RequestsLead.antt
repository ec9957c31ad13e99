-- Where lists of requests lead.
use Rattle.std.proofs.Common.{◌≡◌, ◌⊎◌, ◌&&◌, ◌<◌, ◌≤◌, ◌+◌, ℕ, Bor, Bool, List, [], ◌∷◌, ◌++◌, Option, Some}
use Rattle.std.proofs.Common.{None, length, refl, sym, ap, subst, ◌∙◌, arith, inl, inr, length-append}
use Rattle.std.specs.Prelude.{codes, map}
use Rattle.std.proofs.lemmas.List.{take_all}
use Rattle.std.proofs.lemmas.Option.{same_Some}
use Rattle.lfs_block.specs.Disk.{Disk, IsDisk, image_of}
use Rattle.lfs_journal.specs.Book.{most_journal}
use Rattle.lfs_journal.specs.Laws.{JournalsAreShort}
use Rattle.lfs_command.specs.declared.refusal.Refusal.{Refusal}
use Rattle.lfs_history.specs.History.{History, fresh_history}
use Rattle.lfs_history.specs.Batch.{TakesAll}
use Rattle.lfs_history.specs.Meaning.{OnBytes, step_of}
use Rattle.lfs_json.specs.declared.form.Form.{Form}
use Rattle.lfs_request.specs.declared.fault.Fault.{Fault}
use Rattle.lfs_request.specs.declared.fault.Fault.TheVariants.{Refused, CannotWrite}
use Rattle.lfs_request.specs.declared.outcome.Outcome.{Outcome}
use Rattle.lfs_change.specs.Change.{Denotes, DenotesOn}
use Rattle.lfs_request.specs.Fault.{status_of}
use Rattle.lfs_change.proofs.ChangeLemmas.{denoted_present}
use Rattle.lfs_request.specs.declared.manner.Manner.{Manner}
use Rattle.lfs_request.specs.declared.query.Query.{Query}
use Rattle.lfs_request.specs.declared.query.Query.TheVariants as query
use Rattle.lfs_step.specs.declared.step.Step.{Step}
use Rattle.lfs_step.proofs.RunsLeft.{one_goes}
use Rattle.lfs_step.specs.declared.step.Step.TheVariants.{Format, Pack, Ask, Forget, Adopt, Change, Tree}
use Rattle.lfs_step.specs.Histories.{StepsLeaveHistories}
use Rattle.lfs_step.specs.Outcome.{AnswersDone, given}
use Rattle.lfs_step.proofs.OutcomeLemmas.{AnswersBy}
use Rattle.lfs_request.specs.Query.{Question}
use Rattle.lfs_request.specs.View.{start_of, complete_view}
use Rattle.lfs_request.specs.declared.view.View.{View}
use Rattle.lfs_step.specs.Step.{may_take_older}
use Rattle.lfs_step.specs.Runs.{GoesOn, HasGoodRows}
use Rattle.lfs_exchange.specs.declared.step_kind.StepKind.{StepKind}
use Rattle.lfs_exchange.specs.declared.step_kind.StepKind.TheVariants.{Makes, Asks, Recounts, Changes, Forgets, Adopts}
use Rattle.lfs_exchange.specs.Handing.{HandedBytes, IsHanded, IsUnwrittenAt, most_image}
use Rattle.lfs_exchange.specs.StepKind.{kind_of_query, kind_of_steps}
use Rattle.lfs_serve.specs.StepKind.{kind_of}
use Rattle.lfs_exchange.specs.Storing.{HasBoth, IsDisplaced, LeavesFiles, SparesFiles, journal_name, new_name, new_names}
use Rattle.lfs_host.specs.Files.{Apart, BeginsWith, Files, FindsFile, ReadsFile, bytes_there}
use Rattle.lfs_host.specs.Scene.{KeepsScene, Scene, unknown}
use Rattle.lfs_request.specs.declared.operation.Operation.{Operation}
use Rattle.lfs_request.specs.declared.operation.Operation.TheVariants as operation
use Rattle.lfs_open.specs.HostFolder.{packed_row}
use Rattle.lfs_pack.specs.Repacked.{all_packed}
use Rattle.lfs_open.specs.ReadBy.{IsReadBy}
use Rattle.lfs_serve.specs.Program.{BecomesStep, EndsStep, EndsOperation, IsNotBegun, StopsStep, manner_of}
use Rattle.lfs_serve.specs.Requests.{FilesDenote, IsServedOn, IsTorn, RequestGoes, RequestsLeadOn, Served, OperationGoes, OperationGoesBy}
use Rattle.lfs_serve.proofs.StepLemmas.{handed_from}

-- ---- names

longer : (name more : List ℕ) → 0 < length more → ¬ (name ≡ name ++ more)
longer name more some same = omega (arith, ap length same, length-append name more, some)

-- the name of an image, and that of its journal, are none of what is to become them
image_apart : (name : List ℕ) → Apart name (new_names name)
image_apart name = (
  longer name (codes ".new") (omega arith),
  (λ same. omega (arith, ap length same, length-append name (codes ".lfsj"), length-append (journal_name name) (codes ".new")), tt),
)

journal_apart : (name : List ℕ) → Apart (journal_name name) (new_names name)
journal_apart name = (
  λ same. omega (arith, ap length same, length-append name (codes ".lfsj"), length-append name (codes ".new")),
  (longer (journal_name name) (codes ".new") (omega arith), tt),
)

-- nor that of a new journal alone
apart_at : (name : List ℕ) → Apart name (new_name (journal_name name) ∷ []) × Apart (journal_name name) (new_name (journal_name name) ∷ [])
apart_at name = (((image_apart name).1.0, tt), ((journal_apart name).1.0, tt))

image_not_journal : (name : List ℕ) → ¬ (name ≡ journal_name name)
image_not_journal name = longer name (codes ".lfsj") (omega arith)

-- ---- what is read

complete_read : (most : ℕ) (complete read : List ℕ) → length complete ≤ most → BeginsWith most complete read → read ≡ complete
complete_read most complete read short begins = begins ∙ take_all (most + 1) complete (omega (arith, short))

-- an image isn't longer than what is read of one
image_short : (size : ℕ) (image : List ℕ) → IsDisk (image_of size image) → length image ≤ most_image
image_short size image is = omega (arith, is.len, is.geometry.length_fits)

-- nor is a journal
journal_short : JournalsAreShort → (d : Disk) (journal : List ℕ) (h : History) → DenotesOn d journal h → length journal ≤ most_journal
journal_short short d [] h denotes = omega arith
journal_short short d (byte ∷ bytes) h denotes =
    short (byte ∷ bytes) denotes.book denotes.spelled

image_read : (size : ℕ) (name read : List ℕ) (files : Files) (h : History) (denotes : FilesDenote size name files h)
    → ReadsFile (Some files) name most_image read → read ≡ denotes.0
image_read size name read files h (image, is, denotes) (complete, there, begins) =
    let same : complete ≡ image = same_Some complete image (sym there ∙ is) in
    complete_read most_image image read (image_short size image denotes.0)
    (subst (λ (w : List ℕ). BeginsWith most_image w read) same begins)

journal_read : JournalsAreShort → (size : ℕ) (name read : List ℕ) (files : Files) (h : History) → FilesDenote size name files h
    → FindsFile (Some files) (journal_name name) most_journal read → read ≡ bytes_there (files (journal_name name))
journal_read short size name read files h (image, is, denotes) found =
    complete_read most_journal (bytes_there (files (journal_name name))) read
    (journal_short short (image_of size image) (bytes_there (files (journal_name name))) h denotes.1) found

-- ---- files that denote a history

-- where image and journal stay
stays : (size : ℕ) (name : List ℕ) (old new : Files) (h : History) → new name ≡ old name
    → new (journal_name name) ≡ old (journal_name name) → FilesDenote size name old h → FilesDenote size name new h
stays size name old new h image journal (bytes, is, denotes) =
    (bytes, image ∙ is, subst (λ (j : Option (List ℕ)). Denotes size bytes (bytes_there j) h) (sym journal) denotes)

-- where all files stay
same_files : (size : ℕ) (name : List ℕ) (old new : Files) (h : History) → Some new ≡ Some old → FilesDenote size name old h
    → FilesDenote size name new h
same_files size name old new h same denotes = subst (λ (f : Files). FilesDenote size name f h) (sym (same_Some new old same)) denotes

-- where an outcome's image and journal are written
written : (size : ℕ) (name : List ℕ) (old new : Files) (outcome : Outcome) (h : History)
    → HasBoth name outcome.image.items outcome.journal.items old new → Denotes size outcome.image.items outcome.journal.items h
    → FilesDenote size name new h
written size name old new outcome h both denotes = (
  outcome.image.items,
  both.image_is,
  subst (λ (j : Option (List ℕ)). Denotes size outcome.image.items (bytes_there j) h) (sym both.journal_is) denotes,
)

-- ---- where a step leads that was done

-- a host of which nothing is known but these files
abbrev with_files : Files → Scene
with_files files = record unknown { files = Some files }

record StepLeads (size : ℕ) (name : List ℕ) (s : Step) (new : Files) (old : History) : Type 0 where
  next : History
  goes : GoesOn size s old next
  denotes : FilesDenote size name new next

-- what a change was handed is what the files have
handed_change : JournalsAreShort → (size : ℕ) (name : List ℕ) (files : Files) (h : History) (b : HandedBytes) → FilesDenote size name files h
    → IsHanded Changes 0 name (with_files files) b → Denotes size b.image b.journal h
handed_change short size name files h b denotes handed =
    subst (λ (i : List ℕ). Denotes size i b.journal h) (sym (image_read size name b.image files h denotes handed.image))
    (subst (λ (j : List ℕ). Denotes size denotes.0 j h) (sym (journal_read short size name b.journal files h denotes handed.journal)) denotes.2)

-- the same where an image is taken over
handed_adopted : JournalsAreShort → (size : ℕ) (name : List ℕ) (files : Files) (h : History) (b : HandedBytes) → FilesDenote size name files h
    → IsHanded Adopts 0 name (with_files files) b → Denotes size b.image b.journal h
handed_adopted short size name files h b denotes handed =
    subst (λ (i : List ℕ). Denotes size i b.journal h) (sym (image_read size name b.image files h denotes handed.image))
    (subst (λ (j : List ℕ). Denotes size denotes.0 j h) (sym (journal_read short size name b.journal files h denotes handed.journal)) denotes.2)

-- the laws that this stands on
record Laws : Type 0 where
  short : JournalsAreShort
  leaves : StepsLeaveHistories

-- a question
asks : (query : Question) (form : Form) (size : ℕ) (name : List ℕ) (old new : Files) (h : History) → FilesDenote size name old h → Some new ≡ Some old
    → StepLeads size name (Ask query form) new h
asks query form size name old new h denotes same = record {
  next = h;
  goes = refl;
  denotes = same_files size name old new h same denotes;
}

asked : (query : Question) (form : Form) (size : ℕ) (name : List ℕ) (old new : Files) (h : History) (outcome : Outcome) → FilesDenote size name old h
    → LeavesFiles (kind_of_query query) (Some old) (Some new) name outcome → StepLeads size name (Ask query form) new h
asked (query.Check version most) form size name old new h outcome denotes same = asks (query.Check version most) form size name old new h denotes same
asked (query.Ls path digests) form size name old new h outcome denotes same = asks (query.Ls path digests) form size name old new h denotes same
asked (query.Blocks sums) form size name old new h outcome denotes same = asks (query.Blocks sums) form size name old new h denotes same
asked (query.Cat path) form size name old new h outcome denotes same = asks (query.Cat path) form size name old new h denotes same
asked (query.Diff other other_size quiet) form size name old new h outcome denotes same = asks (query.Diff other other_size quiet) form size name old new h denotes same
asked query.Log form size name old new h outcome denotes same = asks query.Log form size name old new h denotes same

-- all but the image is forgotten
forgets : Laws → (size : ℕ) (name : List ℕ) (old new : Files) (h : History) (b : HandedBytes) (outcome : Outcome) → FilesDenote size name old h
    → IsHanded Forgets 0 name (with_files old) b → AnswersDone Forget (given size b.image b.journal) outcome
    → LeavesFiles Forgets (Some old) (Some new) name outcome → StepLeads size name Forget new h
forgets laws size name old new h b outcome denotes handed answers replaced =
    let d = image_of size b.image in
    let read = image_read size name b.image old h denotes handed.image in
    let journal = bytes_there (old (journal_name name)) in
    let on : Denotes size b.image journal h = subst (λ (i : List ℕ). Denotes size i journal h) (sym read) denotes.2 in
    let present : h.present ≡ d = denoted_present d journal h on.1 in
    let leaves = laws.leaves Forget (given size b.image b.journal) outcome answers in
    let there : new name ≡ Some b.image = replaced.2 name (
      λ same. omega (arith, ap length same, length-append name (codes ".lfsj"), length-append (journal_name name) (codes ".new")),
      (image_not_journal name, tt),
    ) ∙ denotes.1 ∙ ap Some (sym read) in
    record {
      next = fresh_history d;
      goes = ap fresh_history (sym present);
      denotes = (
        b.image,
        there,
        subst (λ (j : Option (List ℕ)). Denotes size b.image (bytes_there j) (fresh_history d)) (sym replaced.0)
            (subst (λ (i : List ℕ). Denotes size i outcome.journal.items (fresh_history d)) answers.image_is leaves),
      );
    }

-- steps on the history; none at all leave it
takes_all : Laws → (moves : List OnBytes) (steps : Bor (List OnBytes)) → moves ≡ steps.now → (size : ℕ) (name : List ℕ) (old new : Files)
    (h : History) (b : HandedBytes) (outcome : Outcome) → FilesDenote size name old h
    → IsHanded (kind_of_steps steps.now) 0 name (with_files old) b → AnswersDone (Change steps) (given size b.image b.journal) outcome
    → LeavesFiles (kind_of_steps steps.now) (Some old) (Some new) name outcome → StepLeads size name (Change steps) new h
takes_all laws [] steps are size name old new h b outcome denotes handed answers leaves =
    let same : Some new ≡ Some old = subst (λ (k : StepKind). LeavesFiles k (Some old) (Some new) name outcome) (sym (ap kind_of_steps are)) leaves in
    record {
      next = h;
      goes = subst (λ (ms : List OnBytes). TakesAll (map step_of ms) h h) are refl;
      denotes = same_files size name old new h same denotes;
    }
takes_all laws (m ∷ ms) steps are size name old new h b outcome denotes handed answers leaves =
    let kind : kind_of_steps steps.now ≡ Changes = sym (ap kind_of_steps are) in
    let both : HasBoth name outcome.image.items outcome.journal.items old new =
    subst (λ (k : StepKind). LeavesFiles k (Some old) (Some new) name outcome) kind leaves in
    let on = handed_change laws.short size name old h b denotes (subst (λ (k : StepKind). IsHanded k 0 name (with_files old) b) kind handed) in
    let (next, takes, left) = laws.leaves (Change steps) (given size b.image b.journal) outcome answers h on in
    record { next = next; goes = takes; denotes = written size name old new outcome next both left }

-- any step
done_leads : Laws → (s : Step) (size : ℕ) (name : List ℕ) (old new : Files) (h : History) (b : HandedBytes) (outcome : Outcome) → HasGoodRows s
    → FilesDenote size name old h → IsHanded (kind_of s) 0 name (with_files old) b → AnswersDone s (given size b.image b.journal) outcome
    → LeavesFiles (kind_of s) (Some old) (Some new) name outcome → StepLeads size name s new h
done_leads laws (Format count limits) size name old new h b outcome good denotes handed answers both =
    let next = fresh_history (image_of size outcome.image.items) in
    let left = laws.leaves (Format count limits) (given size b.image b.journal) outcome answers in
    record { next = next; goes = (refl, answers.0); denotes = written size name old new outcome next both left }
done_leads laws (Pack count limits rows) size name old new h b outcome (packed, are) denotes handed answers both =
    let next = fresh_history (image_of size outcome.image.items) in
    let left = laws.leaves (Pack count limits rows) (given size b.image b.journal) outcome answers packed are in
    record { next = next; goes = (refl, answers.0); denotes = written size name old new outcome next both left }
done_leads laws (Ask query form) size name old new h b outcome good denotes handed answers same = asked query form size name old new h outcome denotes same
done_leads laws Forget size name old new h b outcome good denotes handed answers leaves =
    forgets laws size name old new h b outcome denotes handed answers leaves
done_leads laws (Adopt form replaces) size name old new h b outcome good denotes handed answers both =
    let g = given size b.image b.journal in
    let on : Denotes size b.image b.journal h = handed_adopted laws.short size name old h b denotes handed in
    let one = one_goes laws.leaves None (Adopt form replaces) g outcome h tt on answers in
    record { next = one.new; goes = one.goes; denotes = written size name old new outcome one.new both one.leaves }
done_leads laws (Change steps) size name old new h b outcome good denotes handed answers leaves =
    takes_all laws steps.now steps refl size name old new h b outcome denotes handed answers leaves
done_leads laws (Tree change keep) size name old new h b outcome good denotes handed answers both =
    let on = handed_change laws.short size name old h b denotes handed in
    let (next, goes, left) = laws.leaves (Tree change keep) (given size b.image b.journal) outcome answers h on in
    record { next = next; goes = goes; denotes = written size name old new outcome next both left }

-- a step is a question
abbrev IsAsking : Step → Type 0
IsAsking s = (query : Question) × (form : Form) × (s ≡ Ask query form)

-- only a question may be asked of an image that isn't all of its file, as it is
abbrev IsReadFor : Step → Manner → Type 0
IsReadFor s manner = (manner.view ≡ complete_view) ⊎ IsAsking s

-- a step that was done
step_leads : Laws → (s : Step) (manner : Manner) (size : ℕ) (name : List ℕ) (scene behind : Scene) (old new : Files) (h : History) → HasGoodRows s
    → IsReadFor s manner → scene.files ≡ Some old → behind.files ≡ Some new → FilesDenote size name old h
    → EndsStep s manner size name scene behind None → StepLeads size name s new h
step_leads laws s manner size name scene behind old new h good for before later denotes (outcome, runs, leaves, flushed) =
    let b = runs.bytes in
    let done = subst (λ (f : Option Fault). AnswersBy f s (given size runs.image b.journal) outcome) runs.fault_is runs.answers in
    let left : LeavesFiles (kind_of s) (Some old) (Some new) name outcome =
    subst (λ (f : Option Files). LeavesFiles (kind_of s) (Some old) f name outcome) later
    (subst (λ (f : Option Files). LeavesFiles (kind_of s) f behind.files name outcome) before leaves) in
    elim for [
      | inl plain ↦
          let same : runs.image ≡ b.image = subst (λ (v : View). IsReadBy v size b.image runs.image) plain runs.read in
          let at : IsHanded (kind_of s) 0 name (with_files old) b = handed_from (kind_of s) 0 name scene (with_files old) b before
          (subst (λ (v : View). IsHanded (kind_of s) (start_of v) name scene b) plain runs.handed) in
          done_leads laws s size name old new h b outcome good denotes at
          (subst (λ (i : List ℕ). AnswersDone s (given size i b.journal) outcome) same done) left
      | inr (query, form, is) ↦
          subst (λ (t : Step). StepLeads size name t new h) (sym is)
          (asked query form size name old new h outcome denotes (subst (λ (t : Step). LeavesFiles (kind_of t) (Some old) (Some new) name outcome) is left))
    ]

-- ---- what a step leaves that wasn't done

-- the status of what the host refuses to write
host_status : (scene : Scene) (name : List ℕ) (fault : Fault) → IsUnwrittenAt scene name fault → status_of (Some fault) ≡ 4
host_status scene name CannotWrite unwritten = refl
host_status scene name (Refused refusal) unwritten = subst (λ (r : Refusal). status_of (Some (Refused r)) ≡ 4) (sym unwritten) refl
host_status scene name _ unwritten = absurd unwritten

-- image and journal stay, or the image does, since the host refused a file its place
spared : (fault : Fault) (kind : StepKind) (placed : Scene) (size : ℕ) (name : List ℕ) (old new : Files) (h : History) (outcome : Outcome)
    → FilesDenote size name old h → SparesFiles fault kind placed (Some old) (Some new) name outcome
    → FilesDenote size name new h ⊎ (IsDisplaced placed name × (new name ≡ old name))
spared (Refused refusal) kind placed size name old new h outcome denotes same = inl (same_files size name old new h same denotes)
spared _ Asks placed size name old new h outcome denotes same = inl (same_files size name old new h same denotes)
spared _ Recounts placed size name old new h outcome denotes same = inl (same_files size name old new h same denotes)
spared _ Forgets placed size name old new h outcome denotes kept =
    inl (stays size name old new h (kept name (apart_at name).0) (kept (journal_name name) (apart_at name).1) denotes)
spared _ Makes placed size name old new h outcome denotes (inl kept) =
    inl (stays size name old new h (kept name (image_apart name)) (kept (journal_name name) (journal_apart name)) denotes)
spared _ Adopts placed size name old new h outcome denotes (inl kept) =
    inl (stays size name old new h (kept name (image_apart name)) (kept (journal_name name) (journal_apart name)) denotes)
spared _ Adopts placed size name old new h outcome denotes (inr (place, torn)) =
    inr (place, torn.others name (image_not_journal name, image_apart name))
spared _ Changes placed size name old new h outcome denotes (inl kept) =
    inl (stays size name old new h (kept name (image_apart name)) (kept (journal_name name) (journal_apart name)) denotes)
spared _ Makes placed size name old new h outcome denotes (inr (place, torn)) =
    inr (place, torn.others name (image_not_journal name, image_apart name))
spared _ Changes placed size name old new h outcome denotes (inr (place, torn)) =
    inr (place, torn.others name (image_not_journal name, image_apart name))

-- the host tore image and journal apart
abbrev IsTornBy : Scene → ℕ → List ℕ → Files → Files → Type 0
IsTornBy behind status name old new = IsDisplaced behind name × (status ≡ 4) × (new name ≡ old name)

-- the files denote the history still, or the host tore them apart
stop_leaves : (s : Step) (manner : Manner) (size : ℕ) (name : List ℕ) (scene behind : Scene) (fault : Fault) (old new : Files) (h : History)
    → scene.files ≡ Some old → behind.files ≡ Some new → FilesDenote size name old h → StopsStep s manner size name scene behind fault
    → FilesDenote size name new h ⊎ IsTornBy behind (status_of (Some fault)) name old new
stop_leaves s manner size name scene behind fault old new h before later denotes (inl (outcome, runs, same, handed)) =
    inl (same_files size name old new h (sym later ∙ same ∙ before) denotes)
stop_leaves s manner size name scene behind fault old new h before later denotes (inr (inl (refused, keeps))) =
    inl (same_files size name old new h (sym later ∙ keeps.0 ∙ before) denotes)
stop_leaves s manner size name scene behind fault old new h before later denotes (inr (inr (unwritten, (answered, complete, outcome, runs, spares)))) =
    let placed = behind in
    let left : SparesFiles fault (kind_of s) placed (Some old) (Some new) name outcome =
    subst (λ (f : Option Files). SparesFiles fault (kind_of s) placed (Some old) f name outcome) later
    (subst (λ (f : Option Files). SparesFiles fault (kind_of s) placed f behind.files name outcome) before spares) in
    elim (spared fault (kind_of s) placed size name old new h outcome denotes left) [
      | inl kept ↦ inl kept
      | inr (place, image) ↦ inr (place, host_status behind unwritten.0 fault unwritten.2, image)
    ]

-- ---- operations

-- the rows of a folder say what is packed, and no other step has any
good_step : (t : Operation) (size : ℕ) (scene : Scene) (s : Step) → BecomesStep t size scene s → HasGoodRows s
good_step (operation.Pack extent limits dir most) size scene (Pack count stated rows) (folder, counts, same) = (map (packed_row most) folder.shown, folder.packed)
good_step (operation.Repack source extent said most) size scene (Pack count stated rows) packs =
    (all_packed most (image_of source.size packs.image) packs.mounted.rows, packs.rows_are)
good_step (operation.Format many limits) size scene (Pack count stated rows) becomes = absurd becomes
good_step (operation.Extract dir path view) size scene (Pack count stated rows) becomes = absurd becomes
good_step (operation.Salvage dir view) size scene (Pack count stated rows) becomes = absurd becomes
good_step (operation.Ask query form view) size scene (Pack count stated rows) becomes = absurd becomes
good_step operation.Forget size scene (Pack count stated rows) becomes = absurd becomes
good_step (operation.Adopt form replaces) size scene (Pack count stated rows) becomes = absurd becomes
good_step (operation.Change move) size scene (Pack count stated rows) becomes = absurd becomes
good_step (operation.Tree change keep) size scene (Pack count stated rows) becomes = absurd becomes
good_step (operation.Batch file terms one) size scene (Pack count stated rows) becomes = absurd becomes
good_step t size scene (Format count limits) becomes = tt
good_step t size scene (Ask query form) becomes = tt
good_step t size scene Forget becomes = tt
good_step t size scene (Adopt form replaces) becomes = tt
good_step t size scene (Change steps) becomes = tt
good_step t size scene (Tree change keep) becomes = tt

-- where a request leads, or that it is torn
data Ends (size : ℕ) (name : List ℕ) (t : Operation) (scene behind : Scene) (fault : Option Fault) (old new : Files) (h : History) : Type 0 where
  Leads : (next : History) → OperationGoesBy fault size t scene h next → FilesDenote size name new next → Ends size name t scene behind fault old new h
  Tears : IsTornBy behind (status_of fault) name old new → Ends size name t scene behind fault old new h

-- what wasn't done leaves the history, or tears
stopped : (size : ℕ) (name : List ℕ) (t : Operation) (scene behind : Scene) (fault : Fault) (old new : Files) (h : History)
    → FilesDenote size name new h ⊎ IsTornBy behind (status_of (Some fault)) name old new → Ends size name t scene behind (Some fault) old new h
stopped size name t scene behind fault old new h (inl denotes) = Leads h refl denotes
stopped size name t scene behind fault old new h (inr torn) = Tears torn

-- a folder that is made leaves the history
extracted : (fault : Option Fault) (size : ℕ) (dir path : Bor (List ℕ)) (view : View) (scene : Scene) (h : History)
    → OperationGoesBy fault size (operation.Extract dir path view) scene h h
extracted None size dir path view scene h = refl
extracted (Some fault) size dir path view scene h = refl

salvaged : (fault : Option Fault) (size : ℕ) (dir : Bor (List ℕ)) (view : View) (scene : Scene) (h : History)
    → OperationGoesBy fault size (operation.Salvage dir view) scene h h
salvaged None size dir view scene h = refl
salvaged (Some fault) size dir view scene h = refl

-- the name of an image that is to be new is taken: nothing is done
name_taken : (fault : Option Fault) (size : ℕ) (name : List ℕ) (t : Operation) (scene behind : Scene) (old new : Files) (h : History)
    → fault ≡ Some CannotWrite → FilesDenote size name new h → Ends size name t scene behind fault old new h
name_taken fault size name t scene behind old new h is denotes =
    subst (λ (f : Option Fault). Ends size name t scene behind f old new h) (sym is) (Leads h refl denotes)

-- as the step that an operation becomes, or before that
abbrev EndsAsStep : Operation → Bool → ℕ → List ℕ → Scene → Scene → Option Fault → Type 0
EndsAsStep t older size name old new fault =
    ((s : Step) × BecomesStep t size old s × EndsStep s (manner_of t (may_take_older s && older)) size name old new fault)
    ⊎ (KeepsScene old new × ((why : Fault) × (fault ≡ Some why) × IsNotBegun t name old new why))

-- the operation of a question becomes one
asking : (query : Query (Bor (List ℕ))) (form : Form) (view : View) (size : ℕ) (scene : Scene) (s : Step) → BecomesStep (operation.Ask query form view) size scene s
    → IsAsking s
asking query form view size scene (Ask question said) becomes = (question, said, refl)
asking query form view size scene (Format count limits) becomes = absurd becomes
asking query form view size scene (Pack count limits rows) becomes = absurd becomes
asking query form view size scene Forget becomes = absurd becomes
asking query form view size scene (Adopt said replaces) becomes = absurd becomes
asking query form view size scene (Change steps) becomes = absurd becomes
asking query form view size scene (Tree change keep) becomes = absurd becomes

-- an operation that becomes a step
step_ends : Laws → (fault : Option Fault) (t : Operation) (older : Bool) (size : ℕ) (name : List ℕ) (scene behind : Scene) (old new : Files) (h : History)
    → ((next : History) → (s : Step) × BecomesStep t size scene s × GoesOn size s h next → OperationGoes size t scene h next)
    → ((s : Step) → BecomesStep t size scene s → IsReadFor s (manner_of t (may_take_older s && older)))
    → scene.files ≡ Some old → behind.files ≡ Some new → FilesDenote size name old h → EndsAsStep t older size name scene behind fault
    → Ends size name t scene behind fault old new h
step_ends laws None t older size name scene behind old new h turn for before later denotes (inl (s, becomes, ends)) =
    let leads = step_leads laws s (manner_of t (may_take_older s && older)) size name scene behind old new h (good_step t size scene s becomes) (for s becomes) before
    later denotes ends in
    Leads leads.next (turn leads.next (s, becomes, leads.goes)) leads.denotes
step_ends laws None t older size name scene behind old new h turn for before later denotes (inr (keeps, (why, is, not))) = absurd cc
step_ends laws (Some fault) t older size name scene behind old new h turn for before later denotes (inl (s, becomes, ends)) =
    stopped size name t scene behind fault old new h (stop_leaves s (manner_of t (may_take_older s && older)) size name scene behind fault old new h before later denotes ends)
step_ends laws (Some fault) t older size name scene behind old new h turn for before later denotes (inr (keeps, not)) =
    Leads h refl (same_files size name old new h (sym later ∙ keeps.0 ∙ before) denotes)

-- any operation
operation_ends : Laws → (fault : Option Fault) (t : Operation) (older : Bool) (size : ℕ) (name : List ℕ) (scene behind : Scene) (old new : Files) (h : History)
    → scene.files ≡ Some old → behind.files ≡ Some new → FilesDenote size name old h → EndsOperation t older size name scene behind fault
    → Ends size name t scene behind fault old new h
operation_ends laws fault (operation.Extract dir path view) older size name scene behind old new h before later denotes ends =
    Leads h (extracted fault size dir path view scene h) (same_files size name old new h (sym later ∙ ends.0.0 ∙ before) denotes)
operation_ends laws fault (operation.Salvage dir view) older size name scene behind old new h before later denotes ends =
    Leads h (salvaged fault size dir view scene h) (same_files size name old new h (sym later ∙ ends.0.0 ∙ before) denotes)
operation_ends laws fault (operation.Format count limits) older size name scene behind old new h before later denotes ends =
    step_ends laws fault (operation.Format count limits) older size name scene behind old new h (λ next goes. goes) (λ s becomes. inl refl) before later
    denotes ends
operation_ends laws fault (operation.Pack extent limits dir most) older size name scene behind old new h before later denotes ends =
    step_ends laws fault (operation.Pack extent limits dir most) older size name scene behind old new h (λ next goes. goes) (λ s becomes. inl refl) before later
    denotes ends
operation_ends laws fault (operation.Repack source extent said most) older size name scene behind old new h before later denotes ends =
    step_ends laws fault (operation.Repack source extent said most) older size name scene behind old new h (λ next goes. goes) (λ s becomes. inl refl) before later
    denotes ends
operation_ends laws fault (operation.Ask query form view) older size name scene behind old new h before later denotes ends =
    step_ends laws fault (operation.Ask query form view) older size name scene behind old new h (λ next goes. goes)
    (λ s becomes. inr (asking query form view size scene s becomes)) before later denotes ends
operation_ends laws fault operation.Forget older size name scene behind old new h before later denotes ends =
    step_ends laws fault operation.Forget older size name scene behind old new h (λ next goes. goes) (λ s becomes. inl refl) before later
    denotes ends
operation_ends laws fault (operation.Adopt form replaces) older size name scene behind old new h before later denotes ends =
    step_ends laws fault (operation.Adopt form replaces) older size name scene behind old new h (λ next goes. goes) (λ s becomes. inl refl) before later
    denotes ends
operation_ends laws fault (operation.Change move) older size name scene behind old new h before later denotes ends =
    step_ends laws fault (operation.Change move) older size name scene behind old new h (λ next goes. goes) (λ s becomes. inl refl) before later
    denotes ends
operation_ends laws fault (operation.Tree change keep) older size name scene behind old new h before later denotes ends =
    step_ends laws fault (operation.Tree change keep) older size name scene behind old new h (λ next goes. goes) (λ s becomes. inl refl) before later
    denotes ends
operation_ends laws fault (operation.Batch file terms one) older size name scene behind old new h before later denotes ends =
    step_ends laws fault (operation.Batch file terms one) older size name scene behind old new h (λ next goes. goes) (λ s becomes. inl refl) before later
    denotes ends

-- ---- requests

-- a request leads to a history that the files denote, or is torn
abbrev GoesOrTears : ℕ → List ℕ → Served → Files → Files → History → Type 0
GoesOrTears size name s old new h =
    IsTorn name s old new ⊎ ((next : History) × RequestGoes size s h next × FilesDenote size name new next)

by_end : (size : ℕ) (name : List ℕ) (s : Served) (fault : Option Fault) (old new : Files) (h : History) → s.status ≡ status_of fault
    → Ends size name s.request.operation s.old s.new fault old new h → GoesOrTears size name s old new h
by_end size name s fault old new h status (Leads next goes denotes) = inr (next, (fault, status, goes), denotes)
by_end size name s fault old new h status (Tears (place, four, image)) =
    inl (record { status = status ∙ four; place = place; image = image })

request_ends : Laws → (size : ℕ) (name : List ℕ) (s : Served) (old new : Files) (h : History) → FilesDenote size name old h
    → IsServedOn size name s old new → GoesOrTears size name s old new h
request_ends laws size name s old new h denotes is =
    let fault = is.ends.fault in
    let t = s.request.operation in
    let older = s.request.takes_older in
    let by_operation : EndsOperation t older s.request.size s.request.image.now s.old s.new fault → Ends size name t s.old s.new fault old new h = λ ends.
    let by_size = subst (λ (n : ℕ). EndsOperation t older n s.request.image.now s.old s.new fault) is.size_is ends in
    let by_name = subst (λ (n : List ℕ). EndsOperation t older size n s.old s.new fault) is.name_is by_size in
    operation_ends laws fault t older size name s.old s.new old new h is.before is.behind denotes by_name in
    let same : KeepsScene s.old s.new → FilesDenote size name new h = λ keeps.
    same_files size name old new h (sym is.behind ∙ keeps.0 ∙ is.before) denotes in
    by_end size name s fault old new h is.ends.status_is (
    elim is.ends.ends [
      | inl operation ↦ by_operation operation.1
      | inr taken ↦ name_taken fault size name t s.old s.new old new h taken.1 (same taken.3)
    ]
    )

lead_on : Laws → RequestsLeadOn
lead_on laws size name [] old last h denotes same = subst (λ (f : Files). FilesDenote size name f h) (sym same) denotes
lead_on laws size name (s ∷ ss) old last h denotes (mid, is, later) = (
  mid,
  is.behind,
  elim (request_ends laws size name s old mid h denotes is) [
    | inl torn ↦ inl torn
    | inr leads ↦ inr (leads.0, leads.1, leads.2, lead_on laws size name ss mid last leads.0 leads.2 later)
  ],
)

pub requests_lead_on : JournalsAreShort → StepsLeaveHistories → RequestsLeadOn
requests_lead_on short leaves = lead_on (record { short = short; leaves = leaves })
