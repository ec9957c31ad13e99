-- What lines with their words ask for.
use Rattle.std.proofs.Common.{◌≡◌, ◌∙◌, ℕ, List, [], ◌∷◌, ◌++◌, Option, Some, None, sym, ap, subst, refl, append_assoc, append-nil}
use Rattle.std.specs.List.{AllByRecursion, AllZip}
use Rattle.lfs_history.specs.declared.terms.Terms.{Terms}
use Rattle.lfs_texts.specs.Flaws.{known_flaw}
use Rattle.lfs_texts.specs.Lines.{IsLineFault, LineSays}
use Rattle.lfs_texts.specs.Script.{AreSplit, HasItsWords, IsFirstFault, IsFirstSilent, IsLineWords, IsLineSaid, NumberedLine, SaysLine, TakesStep, asking_lines}
use Rattle.lfs_texts.specs.Steps.{IsOnTerms}
use Rattle.lfs_texts.specs.declared.line_words.LineWords.{LineWords}
use Rattle.lfs_texts.specs.declared.script_fault.ScriptFault.{ScriptFault}
use Rattle.lfs_texts.specs.declared.script_line.ScriptLine.{ScriptLine}

-- ---- one after another

-- of some lines these are left, and what the others ask for was taken
pub record HasTaken (terms : Terms) (lines left : List LineWords) (said : List ScriptLine) : Type 0 where
  pub before : List LineWords
  pub apart : lines ≡ before ++ left
  pub says : AllZip IsLineSaid before said
  pub keeps : AllByRecursion (λ (s : ScriptLine). IsOnTerms terms s.step) said
  pub words : AllByRecursion HasItsWords left

-- none, so far
pub none_taken : (terms : Terms) (lines left : List LineWords) (said : List ScriptLine) → left ≡ lines → said ≡ []
    → AllByRecursion HasItsWords lines → HasTaken terms lines left said
none_taken terms lines left said is none words = record {
  before = [];
  apart = sym is;
  says = subst (AllZip IsLineSaid []) (sym none) tt;
  keeps = subst (AllByRecursion (λ (s : ScriptLine). IsOnTerms terms s.step)) (sym none) tt;
  words = subst (AllByRecursion HasItsWords) (sym is) words;
}

says_more : (lines : List LineWords) (said : List ScriptLine) (line : LineWords) (one : ScriptLine)
    → AllZip IsLineSaid lines said → IsLineSaid line one → AllZip IsLineSaid (lines ++ line ∷ []) (said ++ one ∷ [])
says_more [] [] line one all is = (is, tt)
says_more [] (s ∷ said) line one all is = absurd all
says_more (l ∷ lines) [] line one all is = absurd all
says_more (l ∷ lines) (s ∷ said) line one all is = (all.0, says_more lines said line one all.1 is)

keeps_more : (terms : Terms) (said : List ScriptLine) (one : ScriptLine) → AllByRecursion (λ (s : ScriptLine). IsOnTerms terms s.step) said
    → IsOnTerms terms one.step → AllByRecursion (λ (s : ScriptLine). IsOnTerms terms s.step) (said ++ one ∷ [])
keeps_more terms [] one all is = (is, tt)
keeps_more terms (s ∷ said) one all is = (all.0, keeps_more terms said one all.1 is)

-- the words of the first that is left
pub first_words : (left rest : List LineWords) (line : LineWords) → left ≡ line ∷ rest → AllByRecursion HasItsWords left → HasItsWords line
first_words left rest line is words = (subst (AllByRecursion HasItsWords) is words).0

-- one more
pub one_taken : (terms : Terms) (lines left rest : List LineWords) (line : LineWords) (old new : List ScriptLine) → HasTaken terms lines left old
    → left ≡ line ∷ rest → TakesStep terms line old new → HasTaken terms lines rest new
one_taken terms lines left rest line old new taken is (one, says, keeps, more) = record {
  before = taken.before ++ line ∷ [];
  apart = taken.apart ∙ ap (λ (ls : List LineWords). taken.before ++ ls) is ∙ sym (append_assoc taken.before (line ∷ []) rest);
  says = subst (AllZip IsLineSaid (taken.before ++ line ∷ [])) (sym more) (says_more taken.before old line one taken.says says);
  keeps = subst (AllByRecursion (λ (s : ScriptLine). IsOnTerms terms s.step)) (sym more) (keeps_more terms old one taken.keeps keeps);
  words = (subst (AllByRecursion HasItsWords) is taken.words).1;
}

-- all of them where none is left
pub all_taken : (terms : Terms) (lines left : List LineWords) (said : List ScriptLine) → HasTaken terms lines left said → left ≡ []
    → AllZip IsLineSaid lines said
all_taken terms lines left said taken none =
    subst (λ (ls : List LineWords). AllZip IsLineSaid ls said)
    (sym (taken.apart ∙ ap (λ (ls : List LineWords). taken.before ++ ls) none ∙ append-nil taken.before)) taken.says

-- one that says no step is the first
pub first_silent : (terms : Terms) (lines left rest : List LineWords) (line : LineWords) (said : List ScriptLine) (fault : ScriptFault)
    → HasTaken terms lines left said → left ≡ line ∷ rest → fault.number ≡ line.number → IsLineFault line.line.now fault.fault
    → fault.flaw ≡ known_flaw line.line.now fault.fault → IsFirstSilent lines fault
first_silent terms lines left rest line said fault taken is number refused known = record {
  line = line;
  before = taken.before;
  behind = rest;
  said = said;
  asked = taken.apart ∙ ap (λ (ls : List LineWords). taken.before ++ ls) is;
  says = taken.says;
  number = number;
  refused = refused;
  known = known;
}

-- ---- over the lines of the text

-- lines of a text have their words
has_words : (asked : List NumberedLine) (lines : List LineWords) → AllZip IsLineWords asked lines → AllByRecursion HasItsWords lines
has_words [] [] all = tt
has_words [] (w ∷ lines) all = absurd all
has_words (l ∷ asked) [] all = absurd all
has_words (l ∷ asked) (w ∷ lines) all = (all.0.2, has_words asked lines all.1)

-- so do those of a text, all or not
pub split_words : (text : List ℕ) (lines : List LineWords) (fault : Option ScriptFault) → AreSplit text lines fault → AllByRecursion HasItsWords lines
split_words text lines None split = has_words (asking_lines text) lines split
split_words text lines (Some fault) split = has_words split.before lines split.split

-- a line asks for what its words say
says_line : (line : NumberedLine) (words : LineWords) (said : ScriptLine) → IsLineWords line words → IsLineSaid words said → SaysLine line said
says_line line words said split is =
    (is.0 ∙ split.0, subst (λ (text : List ℕ). LineSays text said.step) split.1 is.1)

-- so do several
says_lines : (asked : List NumberedLine) (lines : List LineWords) (said : List ScriptLine) → AllZip IsLineWords asked lines → AllZip IsLineSaid lines said
    → AllZip SaysLine asked said
says_lines [] [] [] split says = tt
says_lines [] [] (s ∷ said) split says = absurd says
says_lines [] (w ∷ lines) said split says = absurd split
says_lines (l ∷ asked) [] said split says = absurd split
says_lines (l ∷ asked) (w ∷ lines) [] split says = absurd says
says_lines (l ∷ asked) (w ∷ lines) (s ∷ said) split says = (says_line l w s split.0 says.0, says_lines asked lines said split.1 says.1)

-- lines of a text with their words, cut at one of these
record IsCutAt (asked : List NumberedLine) (before : List LineWords) (line : LineWords) : Type 0 where
  front : List NumberedLine
  number : ℕ
  text : List ℕ
  rest : List NumberedLine
  apart : asked ≡ front ++ (number, text) ∷ rest
  fronts : AllZip IsLineWords front before
  is : IsLineWords (number, text) line

cut_at : (asked : List NumberedLine) (before behind : List LineWords) (line : LineWords) → AllZip IsLineWords asked (before ++ line ∷ behind)
    → IsCutAt asked before line
cut_at [] [] behind line split = absurd split
cut_at [] (w ∷ before) behind line split = absurd split
cut_at ((n, text) ∷ asked) [] behind line split =
    record { front = []; number = n; text = text; rest = asked; apart = refl; fronts = tt; is = split.0 }
cut_at (l ∷ asked) (w ∷ before) behind line split =
    let more = cut_at asked before behind line split.1 in
    record {
      front = l ∷ more.front;
      number = more.number;
      text = more.text;
      rest = more.rest;
      apart = ap (λ (ls : List NumberedLine). l ∷ ls) more.apart;
      fronts = (split.0, more.fronts);
      is = more.is;
    }

joined : (front rest behind : List NumberedLine) (text : List ℕ) (n m : ℕ) → n ≡ m
    → (front ++ (n, text) ∷ rest) ++ behind ≡ front ++ (m, text) ∷ (rest ++ behind)
joined front rest behind text n m same =
    append_assoc front ((n, text) ∷ rest) behind ∙ ap (λ (k : ℕ). front ++ (k, text) ∷ (rest ++ behind)) same

-- the first that says no step is the first of the text, whatever stands behind them
silent_first : (text : List ℕ) (asked behind : List NumberedLine) (lines : List LineWords) (fault : ScriptFault) → asking_lines text ≡ asked ++ behind
    → AllZip IsLineWords asked lines → IsFirstSilent lines fault → IsFirstFault text fault
silent_first text asked behind lines fault are split silent =
    let cut = cut_at asked silent.before silent.behind silent.line (subst (AllZip IsLineWords asked) silent.asked split) in
    let number : cut.number ≡ fault.number = sym (silent.number ∙ cut.is.0) in
    record {
      line = cut.text;
      before = cut.front;
      behind = cut.rest ++ behind;
      said = silent.said;
      asked = are ∙ ap (λ (ls : List NumberedLine). ls ++ behind) cut.apart
          ∙ joined cut.front cut.rest behind cut.text cut.number fault.number number;
      says = says_lines cut.front silent.before silent.said cut.fronts silent.says;
      refused = subst (λ (l : List ℕ). IsLineFault l fault.fault) cut.is.1 silent.refused;
      known = silent.known ∙ ap (λ (l : List ℕ). known_flaw l fault.fault) cut.is.1;
    }

-- so it is of those of a text
pub silent_is_first : (text : List ℕ) (lines : List LineWords) (fault : Option ScriptFault) (silent : ScriptFault) → AreSplit text lines fault
    → IsFirstSilent lines silent → IsFirstFault text silent
silent_is_first text lines None silent split is =
    silent_first text (asking_lines text) [] lines silent (sym (append-nil (asking_lines text))) split is
silent_is_first text lines (Some fault) silent split is =
    silent_first text split.before ((fault.number, split.line) ∷ split.behind) lines silent split.asked split.split is

-- where all before it say steps, the first line that has no words is the first that says none
pub wordless_is_first : (text : List ℕ) (lines : List LineWords) (said : List ScriptLine) (fault : ScriptFault) → AreSplit text lines (Some fault)
    → AllZip IsLineSaid lines said → IsFirstFault text fault
wordless_is_first text lines said fault split says = record {
  line = split.line;
  before = split.before;
  behind = split.behind;
  said = said;
  asked = split.asked;
  says = says_lines split.before lines said split.split says;
  refused = split.refused;
  known = split.known;
}

-- where all lines have words, what these say is what they ask for
pub all_said : (text : List ℕ) (lines : List LineWords) (said : List ScriptLine) → AreSplit text lines None → AllZip IsLineSaid lines said
    → AllZip SaysLine (asking_lines text) said
all_said text lines said split says = says_lines (asking_lines text) lines said split says
