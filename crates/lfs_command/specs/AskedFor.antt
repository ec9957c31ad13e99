-- What a command of the code asks for, over texts or over names (own).
use Rattle.std.specs.Prelude.{ℕ, Option, Some, None, List, length, map}
use Rattle.std.specs.Borrow.{Bor}
use Rattle.std.specs.Global.{Vec}
use Rattle.lfs_command.specs.Command.{CommandOn, Asked, Command, Mkdir, Put, Rm, Mv, SetAttr, RmAttr, Grow}
use Rattle.lfs_command.specs.declared.command.Command.{Command as Written}
use Rattle.lfs_command.specs.declared.command.Command.TheVariants as case

-- the command that is written, its paths and its bytes read by two maps
abbrev pub command_by : {P B Q : Type 0} → (P → Q) → (B → List ℕ) → Written P B → CommandOn Q
command_by f g (case.Mkdir path) = Mkdir (f path)
command_by f g (case.Put path bytes most) = Put (f path) (g bytes) most
command_by f g (case.Rm path) = Rm (f path)
command_by f g (case.Mv from to) = Mv (f from) (f to)
command_by f g (case.SetAttr path kind value) = SetAttr (f path) kind (g value)
command_by f g (case.RmAttr path kind) = RmAttr (f path) kind
command_by f g (case.Grow count) = Grow count

-- the command that makes a file of these contents, or a directory where there are none
abbrev pub making_said : {P B : Type 0} → P → Option B → ℕ → Written P B
making_said path (Some bytes) most = case.Put path bytes most
making_said path None most = case.Mkdir path

-- the path that it is about, of a move the one that is left
abbrev pub path_said : {P B : Type 0} → Written P B → Option P
path_said (case.Mkdir path) = Some path
path_said (case.Put path bytes most) = Some path
path_said (case.Rm path) = Some path
path_said (case.Mv from to) = Some from
path_said (case.SetAttr path kind value) = Some path
path_said (case.RmAttr path kind) = Some path
path_said (case.Grow count) = None

-- the path that a move leads to
abbrev pub target_said : {P B : Type 0} → Written P B → Option P
target_said (case.Mv from to) = Some to
target_said _ = None

-- a command of the code over texts, with its bytes in hand
abbrev pub OnTexts : Type 0
OnTexts = Written (Bor (List ℕ)) (Bor (List ℕ))

-- what it asks for
abbrev pub asked_for : OnTexts → Asked
asked_for command = command_by (λ (text : Bor (List ℕ)). text.now) (λ (bytes : Bor (List ℕ)). bytes.now) command

-- a command of the code over names, with its bytes in hand
abbrev pub OnNames : Type 0
OnNames = Written (Vec (Bor (List ℕ))) (Bor (List ℕ))

-- the command that it is
abbrev pub named_command : OnNames → Command
named_command command =
    command_by (λ (path : Vec (Bor (List ℕ))). map (λ n. n.now) path.items) (λ (bytes : Bor (List ℕ)). bytes.now) command

-- the length of the contents that are put
abbrev pub contents_len : OnNames → ℕ
contents_len (case.Put path bytes most) = length bytes.now
contents_len command = 0
