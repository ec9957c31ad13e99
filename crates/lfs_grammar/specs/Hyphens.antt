-- Words that begin with a hyphen and are no options (own).
use Rattle.std.specs.Prelude.{◌≡◌, ◌⊎◌, ◌&&◌, ◌||◌, Bool, true, Option, Some, None, List, [], ◌∷◌, codes, if◌then◌else◌, nat_eq, not}
use Rattle.std.specs.List.{starts_with}
use Rattle.std.specs.Str.{bytes_eq}
use Rattle.clap.specs.Words.{Row, Text, first_of, subcommand_of}
use Rattle.lfs_grammar.specs.Grammar.{IsTaken, grammar}

-- a word begins with these bytes
abbrev pub begins_with : Text → Text → Bool
begins_with word start = starts_with nat_eq word start

-- an option of a new image, or of one that gets more blocks, by its long name
abbrev pub names_new_option : Text → Bool
names_new_option word =
    begins_with word (codes "--count") || begins_with word (codes "--size") || begins_with word (codes "--least")
    || begins_with word (codes "--new")

-- an option that is a limit, by its long name
abbrev pub names_limit_option : Text → Bool
names_limit_option word =
    begins_with word (codes "--name-max") || begins_with word (codes "--file-max") || begins_with word (codes "--attr-max")

-- an option of the changes of the past, by its long name
abbrev pub names_past_option : Text → Bool
names_past_option word =
    begins_with word (codes "--keep") || begins_with word (codes "--steps") || begins_with word (codes "--replace")

-- an option of a change of a whole tree, by its long name
abbrev pub names_tree_option : Text → Bool
names_tree_option word = begins_with word (codes "--recursive") || begins_with word (codes "--parents")

-- an option of several commands that are one change, by its long name
abbrev pub names_joint_option : Text → Bool
names_joint_option word = begins_with word (codes "--one") || names_tree_option word

-- an option of commands that put files, or of several commands, by its long name
abbrev pub names_put_option : Text → Bool
names_put_option word = begins_with word (codes "--inline") || names_joint_option word

-- an option of a change, by its long name
abbrev pub names_change_option : Text → Bool
names_change_option word = names_past_option word || names_put_option word

-- an option that says how an image is looked at, by its long name
abbrev pub names_view_option : Text → Bool
names_view_option word = begins_with word (codes "--device") || begins_with word (codes "--offset")

-- an option that says how an answer is told, by its long name
abbrev pub names_answer_option : Text → Bool
names_answer_option word = begins_with word (codes "--sum") || begins_with word (codes "--quiet") || begins_with word (codes "--json") || begins_with word (codes "--sha256")

-- an option of a question, by its long name
abbrev pub names_asking_option : Text → Bool
names_asking_option word = names_view_option word || names_answer_option word

-- an option that says which file is read, and which state of it, by its long name
abbrev pub names_file_option : Text → Bool
names_file_option word = begins_with word (codes "--block") || begins_with word (codes "--older") || begins_with word (codes "--from")

-- an option of an image or a file that is there, by its long name
abbrev pub names_image_option : Text → Bool
names_image_option word = names_file_option word || names_asking_option word

-- an option by its long name
abbrev pub names_long_option : Text → Bool
names_long_option word =
    names_new_option word || names_limit_option word || names_change_option word || names_image_option word

-- an option of a change of a whole tree, by its letter
abbrev pub is_tree_letter : Text → Bool
is_tree_letter word = bytes_eq word (codes "-r") || bytes_eq word (codes "-p")

-- an option by its letter, behind which the block size may stand
abbrev pub names_letter : Text → Bool
names_letter word = begins_with word (codes "-b") || is_tree_letter word

-- an option, or a call for help
abbrev pub names_option : Text → Bool
names_option word = names_letter word || names_long_option word || bytes_eq word (codes "-h") || bytes_eq word (codes "--help")

-- a word that begins with a hyphen and is no option
abbrev pub is_stray : Text → Bool
is_stray word = begins_with word (codes "-") && not (names_option word)

-- the words with `--` before the first stray one
abbrev pub dashed : List Text → List Text
dashed [] = []
dashed (word ∷ rest) = if is_stray word then codes "--" ∷ word ∷ rest else word ∷ dashed rest

-- a name that begins with no hyphen, where there is one
abbrev pub is_plain_name : Option Text → Bool
is_plain_name None = true
is_plain_name (Some name) = not (begins_with name (codes "-"))

-- neither a folder, another image, nor a file of contents, of steps or of images is named by a word that begins with a hyphen
abbrev pub are_plain_names : List Row → Bool
are_plain_names rows =
    is_plain_name (first_of (codes "dir") rows) && is_plain_name (first_of (codes "other") rows)
    && is_plain_name (first_of (codes "source") rows) && is_plain_name (first_of (codes "flash") rows)
    && is_plain_name (first_of (codes "contents") rows) && is_plain_name (first_of (codes "script") rows)

-- no file or folder of the host is named by a word that begins with a hyphen
abbrev pub names_files_plainly : Option (Text × List Row) → Bool
names_files_plainly None = true
names_files_plainly (Some named) =
    is_plain_name (first_of (codes "image") named.1) && are_plain_names named.1

-- how words are read: as they are, where the grammar takes them; else with `--` before the first stray one, where it takes
-- these and no file of the host is named by a word that begins with a hyphen
abbrev pub IsRead : List Text → List Text → Type 0
IsRead words read =
    (IsTaken words × (read ≡ words))
    ⊎ (¬ IsTaken words × (read ≡ dashed words) × IsTaken read × (names_files_plainly (subcommand_of grammar read) ≡ true))
