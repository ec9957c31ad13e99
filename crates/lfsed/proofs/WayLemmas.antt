-- Where lists of runs lead.
use Rattle.std.proofs.Common.{◌≡◌, ◌⊎◌, ◌∙◌, ℕ, List, [], ◌∷◌, Option, Some, None, IfSome, MatchOption, refl, sym, ap, subst, inl, inr}
use Rattle.std.proofs.lemmas.Option.{same_Some}
use Rattle.clap.specs.Words.{Row, Text}
use Rattle.lfs_history.specs.History.{History}
use Rattle.lfs_host.specs.Files.{Files}
use Rattle.lfs_host.specs.Scene.{Scene}
use Rattle.lfs_serve.specs.Program.{EndsRequest}
use Rattle.lfs_serve.specs.Requests.{FilesDenote, IsServedOn, RequestsLeadOn, Served}
use Rattle.lfsed.specs.JsonWord.{plain_words}
use Rattle.lfsed.specs.Way.{TakenRequest, AskedGoes, IsAskedOn, IsTornIn, ProgramRun, RunsLeadOn, asked_named, asked_words}
use Rattle.lfsed.specs.Words.{AreStated, EndsError, EndsExplained, EndsForMemory, EndsUsedWrongly, EndsLine, EndsNamed, EndsPrinting}

-- ---- what asks for nothing changes no file

printing_stays : (old new : Scene) (status : ℕ) → EndsPrinting old new status → new.files ≡ old.files
printing_stays old new status ends = ends.0.0

used_wrongly_stays : (old new : Scene) (status : ℕ) → EndsUsedWrongly old new status → new.files ≡ old.files
used_wrongly_stays old new status ends = ap (λ (s : Scene). s.files) ends.0

memory_stays : (old new : Scene) (status : ℕ) → EndsForMemory old new status → new.files ≡ old.files
memory_stays old new status ends = ends.0.0.0

explained_stays : (old new : Scene) (status : ℕ) → EndsExplained old new status → new.files ≡ old.files
explained_stays old new status (inl printed) = printing_stays old new status printed
explained_stays old new status (inr (inl used_wrongly)) = used_wrongly_stays old new status used_wrongly
explained_stays old new status (inr (inr memory)) = memory_stays old new status memory

error_stays : (kind : _) (old new : Scene) (status : ℕ) → EndsError kind old new status → new.files ≡ old.files
error_stays kind old new status (inl (other, used_wrongly)) = used_wrongly_stays old new status used_wrongly
error_stays kind old new status (inr (inl (help, printed))) = printing_stays old new status printed
error_stays kind old new status (inr (inr memory)) = memory_stays old new status memory

-- a look at the images' files
looked_stays : (named : _) (old looked : Scene) (stated : _) → AreStated named old looked stated → looked.files ≡ old.files
looked_stays named old looked stated (mid, first, then) = then.0.0.0 ∙ first.0.0.0

-- ---- where one run leads

-- what a request, if there is one, leads to
abbrev Goes : ℕ → ℕ → Option TakenRequest → History → History → Type 0
Goes size status asked old new = MatchOption asked (new ≡ old) (λ it. AskedGoes size status it old new)

abbrev GoesOrTears : ℕ → List ℕ → ProgramRun → Files → Files → Option TakenRequest → History → Type 0
GoesOrTears size name r old mid asked h =
    IsTornIn name r old mid ⊎ ((next : History) × Goes size r.status asked h next × FilesDenote size name mid next)

-- the files before a run and behind it
record OnFiles (r : ProgramRun) (old mid : Files) : Type 0 where
  before : r.old.files ≡ Some old
  behind : r.new.files ≡ Some mid

-- one that changes no file
stays : (size : ℕ) (name : List ℕ) (r : ProgramRun) (old mid : Files) (h : History) → FilesDenote size name old h → OnFiles r old mid
    → r.new.files ≡ r.old.files → GoesOrTears size name r old mid None h
stays size name r old mid h denotes on same =
    let is : mid ≡ old = same_Some mid old (sym on.behind ∙ same ∙ on.before) in
    inr (h, refl, subst (λ (f : Files). FilesDenote size name f h) (sym is) denotes)

-- one that ended as a request
goes_asked : RequestsLeadOn → (size : ℕ) (name : List ℕ) (r : ProgramRun) (old mid : Files) (h : History) → FilesDenote size name old h
    → OnFiles r old mid → (asked : TakenRequest) → IsAskedOn size name asked
    → asked.looked.files ≡ r.old.files → EndsRequest asked.request asked.looked r.new r.status
    → GoesOrTears size name r old mid (Some asked) h
goes_asked law size name r old mid h denotes on asked is same ends =
    let s : Served = record { request = asked.request; old = asked.looked; new = r.new; status = r.status } in
    let served : IsServedOn size name s old mid = record {
      size_is = is.0;
      name_is = is.1;
      before = same ∙ on.before;
      behind = on.behind;
      ends = ends;
    } in
    let leads = law size name (s ∷ []) old mid h denotes (mid, served, refl) in
    let there : leads.0 ≡ mid = same_Some leads.0 mid (sym leads.1 ∙ on.behind) in
    elim leads.2 [
      | inl torn ↦
          inl (record {
            status = torn.status;
            place = torn.place;
            image = subst (λ (f : Files). f name ≡ old name) there torn.image;
          })
      | inr goes ↦ inr (goes.0, goes.1, subst (λ (f : Files). FilesDenote size name f goes.0) there goes.2)
    ]

-- one whose words name a command
goes_named : RequestsLeadOn → (size : ℕ) (name : List ℕ) (r : ProgramRun) (old mid : Files) (h : History) → FilesDenote size name old h
    → OnFiles r old mid → (named : Option (Text × List Row)) (ends : EndsNamed named r.old r.new r.status)
    → IfSome (asked_named named r.old r.new r.status ends) (IsAskedOn size name)
    → GoesOrTears size name r old mid (asked_named named r.old r.new r.status ends) h
goes_named law size name r old mid h denotes on named (inl explains) is =
    stays size name r old mid h denotes on (explained_stays r.old r.new r.status explains.2)
goes_named law size name r old mid h denotes on named (inr (inl (stated, looked, are, inl (request, asks, ends)))) is =
    goes_asked law size name r old mid h denotes on (record { request = request; looked = looked }) is
    (looked_stays named r.old looked stated are) ends
goes_named law size name r old mid h denotes on named (inr (inl (stated, looked, are, inr (usage_error, missaid, used_wrongly)))) is =
    stays size name r old mid h denotes on
    (used_wrongly_stays looked r.new r.status used_wrongly ∙ looked_stays named r.old looked stated are)
goes_named law size name r old mid h denotes on named (inr (inr (inl memory))) is =
    stays size name r old mid h denotes on (memory_stays r.old r.new r.status memory)
goes_named law size name r old mid h denotes on named (inr (inr (inr (flash, looks, (fault, finds, told))))) is =
    stays size name r old mid h denotes on finds.0.0

goes_words : RequestsLeadOn → (size : ℕ) (name : List ℕ) (r : ProgramRun) (old mid : Files) (h : History) → FilesDenote size name old h
    → OnFiles r old mid → (ends : EndsLine r.words r.old r.new r.status)
    → IfSome (asked_words (plain_words r.words) r.old r.new r.status ends) (IsAskedOn size name)
    → GoesOrTears size name r old mid (asked_words (plain_words r.words) r.old r.new r.status ends) h
goes_words law size name r old mid h denotes on (inl (read, is_read, named)) is = goes_named law size name r old mid h denotes on _ named is
goes_words law size name r old mid h denotes on (inr (inl (not_read, (kind, among, ends)))) is =
    stays size name r old mid h denotes on (error_stays kind r.old r.new r.status ends)
goes_words law size name r old mid h denotes on (inr (inr memory)) is =
    stays size name r old mid h denotes on (memory_stays r.old r.new r.status memory)

-- ---- where lists of runs lead

pub runs_lead_on : RequestsLeadOn → RunsLeadOn
runs_lead_on law size name [] old last h denotes same = subst (λ (f : Files). FilesDenote size name f h) (sym same) denotes
runs_lead_on law size name (r ∷ rs) old last h denotes (mid, is, later) =
    let on : OnFiles r old mid = record { before = is.before; behind = is.behind } in (
      mid,
      is.behind,
      elim (goes_words law size name r old mid h denotes on r.ends is.on) [
        | inl torn ↦ inl torn
        | inr goes ↦ inr (goes.0, goes.1, goes.2, runs_lead_on law size name rs mid last goes.0 goes.2 later)
      ],
    )
