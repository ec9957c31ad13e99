-- What the lines of a script put, and what they say.
use Rattle.std.proofs.Common.{◌≡◌, ◌<◌, ◌+◌, ℕ, List, [], ◌∷◌, ◌++◌, Option, suc, drop, add-one, drop-cons}
use Rattle.std.proofs.Common.{get_or, length, map, take, refl, sym, ap, ap₂, subst, ◌∙◌, arith}
use Rattle.std.proofs.lemmas.Grind.{flat_map-append}
use Rattle.std.proofs.lemmas.List.{append-nil, append_assoc, length-take-le, map-append, take_more}
use Rattle.std.specs.List.{AllZip}
use Rattle.lfs_command.specs.Command.{Asked}
use Rattle.lfs_history.specs.declared.moves.Move.{Move}
use Rattle.lfs_history.specs.Meaning.{OnBytes, step_of}
use Rattle.lfs_history.specs.Taking as change
use Rattle.lfs_host.specs.Files.{Files}
use Rattle.lfs_texts.specs.declared.script_line.ScriptLine.{ScriptLine}
use Rattle.lfs_open.specs.LineMoves.{HandsLine, command_in, commands_in, listed, move_said, moves_said}

-- ---- lines that are read

-- the lines so far are read: with the others they are all
abbrev pub AreReadTo : Option Files → List ScriptLine → List ScriptLine → List (List ℕ) → Type 0
AreReadTo files lines left read =
    (more : List (List ℕ)) → AllZip (HandsLine files) left more → AllZip (HandsLine files) lines (read ++ more)

-- the line at a place is the first of those that are left
line_left : (lines : List ScriptLine) (i : ℕ) (line : ScriptLine) → i < length lines → line ≡ get_or lines i line
    → drop i lines ≡ line ∷ drop (i + 1) lines
line_left lines i line within is =
    rw (add-one, drop-cons lines i line) (ap (λ (l : ScriptLine). l ∷ drop (suc i) lines) (sym is))

-- one line more
read_further : (files : Option Files) (lines left more : List ScriptLine) (line : ScriptLine) (read : List (List ℕ)) (one : List ℕ)
    → HandsLine files line one → left ≡ line ∷ more → AreReadTo files lines left read → AreReadTo files lines more (read ++ one ∷ [])
read_further files lines left more line read one is same so_far behind zips =
    subst (AllZip (HandsLine files) lines) (sym (append_assoc read (one ∷ []) behind))
    (so_far (one ∷ behind) (subst (λ (ls : List ScriptLine). AllZip (HandsLine files) ls (one ∷ behind)) (sym same) (is, zips)))

-- that at a place, by what was read so far and what was read then
pub read_one : (files : Option Files) (lines : List ScriptLine) (i : ℕ) (line : ScriptLine) (read new : List (List ℕ)) (one : List ℕ)
    → i < length lines → line ≡ get_or lines i line → HandsLine files line one → AreReadTo files lines (drop i lines) read
    → new ≡ read ++ one ∷ [] → AreReadTo files lines (drop (i + 1) lines) new
read_one files lines i line read new one within at hands so_far is =
    let left = line_left lines i line within at in
    subst (AreReadTo files lines (drop (i + 1) lines)) (sym is)
    (read_further files lines (drop i lines) (drop (i + 1) lines) line read one hands left so_far)

-- none is left
pub all_read : (files : Option Files) (lines left : List ScriptLine) (read : List (List ℕ)) → left ≡ [] → AreReadTo files lines left read
    → AllZip (HandsLine files) lines read
all_read files lines left read none so_far =
    subst (AllZip (HandsLine files) lines) (append-nil read)
    (so_far [] (subst (λ (ls : List ScriptLine). AllZip (HandsLine files) ls []) (sym none) tt))

-- ---- what they say

-- what lines say behind others
said_behind : (front behind : List ScriptLine) (read more : List (List ℕ)) → length read ≡ length front
    → moves_said (front ++ behind) (read ++ more) ≡ moves_said front read ++ moves_said behind more
said_behind [] behind [] more same = refl
said_behind [] behind (one ∷ read) more same = absurd (omega (arith, same))
said_behind (line ∷ front) behind [] more same = absurd (omega (arith, same))
said_behind (line ∷ front) behind (one ∷ read) more same =
    ap (λ (ms : List change.Move). move_said line one ∷ ms) (said_behind front behind read more (omega (arith, same)))

-- what one line more says
pub said_more : (lines : List ScriptLine) (read : List (List ℕ)) (i : ℕ) (d : ScriptLine) (e : List ℕ) (old new : List OnBytes) (move : OnBytes)
    → length read ≡ length lines → i < length lines → map step_of old ≡ moves_said (take i lines) (take i read) → new ≡ old ++ move ∷ []
    → step_of move ≡ move_said (get_or lines i d) (get_or read i e)
    → map step_of new ≡ moves_said (take (i + 1) lines) (take (i + 1) read)
said_more lines read i d e old new move same within so_far is said =
    let many : length (take i read) ≡ length (take i lines) =
    length-take-le i read (omega (arith, within, same)) ∙ sym (length-take-le i lines (omega (arith, within))) in
    ap (map step_of) is
    ∙ map-append step_of old (move ∷ [])
    ∙ ap (λ (ms : List change.Move). ms ++ step_of move ∷ []) so_far
    ∙ ap (λ (m : change.Move). moves_said (take i lines) (take i read) ++ m ∷ []) said
    ∙ sym (said_behind (take i lines) (get_or lines i d ∷ []) (take i read) (get_or read i e ∷ []) many)
    ∙ ap₂ moves_said (sym (take_more lines i d within)) (sym (take_more read i e (omega (arith, within, same))))

-- ---- one change

-- the commands among the steps so far, and one step more
pub commands_further : (moves : List OnBytes) (i : ℕ) (d step : OnBytes) (old new : List Asked) → i < length moves → step ≡ get_or moves i d
    → old ≡ commands_in (map step_of (take i moves)) → new ≡ old ++ listed (command_in (step_of step))
    → new ≡ commands_in (map step_of (take (i + 1) moves))
commands_further moves i d step old new within at so_far is =
    let more : change.Move → List Asked = λ m. listed (command_in m) in
    let front : List change.Move = map step_of (take i moves) in
    is ∙ ap (λ (cs : List Asked). cs ++ more (step_of step)) so_far
    ∙ ap (λ (cs : List Asked). commands_in front ++ cs) (sym (append-nil (more (step_of step))))
    ∙ sym (flat_map-append more front (step_of step ∷ []))
    ∙ ap commands_in (sym (map-append step_of (take i moves) (step ∷ [])))
    ∙ ap (λ (ms : List OnBytes). commands_in (map step_of ms))
    (ap (λ (m : OnBytes). take i moves ++ m ∷ []) at ∙ sym (take_more moves i d within))
