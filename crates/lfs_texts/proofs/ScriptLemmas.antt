-- The lines of a script that were read, with their words.
use Rattle.std.proofs.Common.{◌≡◌, ◌∙◌, ℕ, suc, ◌+◌, Bool, true, false, not, cond, List, [], ◌∷◌, ◌++◌, length, sym, ap, subst, arith}
use Rattle.std.proofs.Common.{inl, inr, append_assoc, append-nil, zero-add}
use Rattle.std.specs.List.{AllZip}
use Rattle.lfs_texts.specs.Lines.{is_passed_over}
use Rattle.lfs_texts.specs.Script.{IsLineWords, NumberedLine, SplitsLine, asking_from, asking_lines, lines_in}
use Rattle.lfs_texts.specs.declared.line_words.LineWords.{LineWords}

-- so many lines of a text were read, with their words, and these are left
pub record HasRead (text : List ℕ) (number : ℕ) (left : List (List ℕ)) (words : List LineWords) : Type 0 where
  pub before : List NumberedLine
  pub asked : asking_lines text ≡ before ++ asking_from (number + 1) left
  pub split : AllZip IsLineWords before words
  pub counted : number + length left ≡ length (lines_in text)

-- none, so far
pub none_read : (text : List ℕ) (left : List (List ℕ)) (words : List LineWords) → left ≡ lines_in text → words ≡ [] → HasRead text 0 left words
none_read text left words is none = record {
  before = [];
  asked = ap (asking_from 1) (sym is);
  split = subst (AllZip IsLineWords []) (sym none) tt;
  counted = zero-add (length left) ∙ ap length is;
}

-- a line with its words stands behind the rest
split_more : (lines : List NumberedLine) (words : List LineWords) (line : NumberedLine) (one : LineWords)
    → AllZip IsLineWords lines words → IsLineWords line one → AllZip IsLineWords (lines ++ line ∷ []) (words ++ one ∷ [])
split_more [] [] line one all is = (is, tt)
split_more [] (w ∷ words) line one all is = absurd all
split_more (l ∷ lines) [] line one all is = absurd all
split_more (l ∷ lines) (w ∷ words) line one all is = (all.0, split_more lines words line one all.1 is)

-- the lines that ask, where the first is passed over or isn't
asking_first : (number : ℕ) (line : List ℕ) (lines : List (List ℕ)) (passed : Bool) → is_passed_over line ≡ passed
    → asking_from number (line ∷ lines) ≡ cond (not passed) ((number, line) ∷ asking_from (number + 1) lines) (asking_from (number + 1) lines)
asking_first number line lines passed is =
    ap (λ (p : Bool). cond (not p) ((number, line) ∷ asking_from (number + 1) lines) (asking_from (number + 1) lines)) is

-- the lines that ask, where one is at hand
asked_at : (text : List ℕ) (number : ℕ) (left rest : List (List ℕ)) (line : List ℕ) (words : List LineWords) (read : HasRead text number left words)
    → left ≡ line ∷ rest → is_passed_over line ≡ false
    → asking_lines text ≡ read.before ++ (number + 1, line) ∷ asking_from (number + 1 + 1) rest
asked_at text number left rest line words read is asks =
    read.asked
    ∙ ap (λ (ls : List (List ℕ)). read.before ++ asking_from (number + 1) ls) is
    ∙ ap (λ (ls : List NumberedLine). read.before ++ ls) (asking_first (number + 1) line rest false asks)

counted_more : (text : List ℕ) (number : ℕ) (left rest : List (List ℕ)) (line : List ℕ) → left ≡ line ∷ rest
    → number + length left ≡ length (lines_in text) → number + 1 + length rest ≡ length (lines_in text)
counted_more text number left rest line is counted =
    let more : length left ≡ suc (length rest) = ap length is in
    omega (arith, more, counted)

-- one line more
pub line_read : (text : List ℕ) (number : ℕ) (left rest : List (List ℕ)) (line : List ℕ) (old new : List LineWords)
    → HasRead text number left old → left ≡ line ∷ rest → SplitsLine (number + 1, line) old new → HasRead text (number + 1) rest new
line_read text number left rest line old new read is (inl over) = record {
  before = read.before;
  asked = read.asked
      ∙ ap (λ (ls : List (List ℕ)). read.before ++ asking_from (number + 1) ls) is
      ∙ ap (λ (ls : List NumberedLine). read.before ++ ls) (asking_first (number + 1) line rest true over.0);
  split = subst (AllZip IsLineWords read.before) (sym over.1) read.split;
  counted = counted_more text number left rest line is read.counted;
}
line_read text number left rest line old new read is (inr asks) = record {
  before = read.before ++ (number + 1, line) ∷ [];
  asked = asked_at text number left rest line old read is asks.0
      ∙ sym (append_assoc read.before ((number + 1, line) ∷ []) (asking_from (number + 1 + 1) rest));
  split = subst (AllZip IsLineWords (read.before ++ (number + 1, line) ∷ [])) (sym asks.1.2)
      (split_more read.before old (number + 1, line) asks.1.0 read.split asks.1.1);
  counted = counted_more text number left rest line is read.counted;
}

-- all were read where none is left
pub all_read : (text : List ℕ) (number : ℕ) (left : List (List ℕ)) (words : List LineWords) → HasRead text number left words → left ≡ []
    → AllZip IsLineWords (asking_lines text) words
all_read text number left words read none =
    subst (λ (lines : List NumberedLine). AllZip IsLineWords lines words)
    (sym (read.asked ∙ ap (λ (ls : List (List ℕ)). read.before ++ asking_from (number + 1) ls) none ∙ append-nil read.before)) read.split
