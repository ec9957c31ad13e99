-- What is written of a text whose bytes wait before the writer.
use Rattle.std.proofs.Common.{◌≡◌, ℕ, Bool, true, false, true≢false, List, [], ◌++◌, Option, None, Some, append-nil, sym, ap, subst, ◌∙◌}
use Rattle.std.specs.Prelude.{not, is_some}
use Rattle.std.specs.Io.KnownBytes.{Appends, Keeps, append_known}
use Rattle.lfs_sink.specs.Send.{Sends}

-- what went out to a sink that didn't fail is all of the text
went_out : {X : Type 0} (complete : Bool) (said : Option X) (old new : Option (List ℕ)) (text : List ℕ) → Sends complete old new text
    → is_some said ≡ not complete → said ≡ None → Appends old new text
went_out true said old new text sent failed none = sent
went_out false said old new text sent failed none = absurd (true≢false (sym failed ∙ ap is_some none))

-- all that went out is written once nothing waits any more
all_written : (a b c : Option (List ℕ)) (mid last text : List ℕ) → Appends (append_known a []) (append_known b mid) text
    → Keeps (append_known b mid) (append_known c last) → last ≡ [] → Appends a c text
all_written None b c mid last text sent kept none = tt
all_written (Some xs) None c mid last text sent kept none = absurd sent
all_written (Some xs) (Some ys) None mid last text sent kept none = absurd kept
all_written (Some xs) (Some ys) (Some zs) mid last text sent kept none =
    sym (append-nil zs) ∙ ap (λ (l : List ℕ). zs ++ l) (sym none) ∙ kept ∙ sent ∙ ap (λ (l : List ℕ). l ++ text) (append-nil xs)

-- so the writer holds all of the text, where the sink didn't fail and what waited was written
pub text_written : {X : Type 0} (complete : Bool) (said : Option X) (a b c : Option (List ℕ)) (old mid last text : List ℕ) → old ≡ []
    → Sends complete (append_known a old) (append_known b mid) text → is_some said ≡ not complete → said ≡ None
    → Keeps (append_known b mid) (append_known c last) → last ≡ [] → Appends a c text
text_written complete said a b c old mid last text empty sent failed none kept written =
    all_written a b c mid last text
    (subst (λ (l : List ℕ). Appends (append_known a l) (append_known b mid) text) empty
    (went_out complete said (append_known a old) (append_known b mid) text sent failed none))
    kept written
