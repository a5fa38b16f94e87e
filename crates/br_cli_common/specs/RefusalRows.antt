-- The rows of the table: for each number its name, what it means and what to do next.
use Rattle.std.specs.Prelude.{ℕ, List, [], ◌∷◌, ◌++◌, codes}
use Rattle.br_cli_common.specs.declared.refusal.Refusal.{Refusal}

-- a row, with its words as bytes
pub record Row : Type 0 where
  pub number : ℕ
  pub name : List ℕ
  pub meaning : List ℕ
  pub next : List ℕ

-- the row of a refusal of the program
abbrev pub row_of : Refusal → Row
row_of r = record { number = r.number; name = r.name.now; meaning = r.meaning.now; next = r.next.now }

abbrev pub row_with : ℕ → List ℕ → List ℕ → List ℕ → Row
row_with n words means following = record { number = n; name = words; meaning = means; next = following }

-- every row below 50, in order of number
abbrev pub rows_below_50 : List Row
rows_below_50 =
    row_with 1 (codes "Memory")
    (codes "The program ran out of memory.")
    (codes "Free memory or mark fewer files, and run the command again.") ∷
    row_with 2 (codes "BadName")
    (codes "The client or the file set has a name that is not allowed.")
    (codes "Take the name from the catalogue: 1 to 127 letters, digits, spaces, `-`, `_`, `.` and `:`. Put a name with spaces in quotes.") ∷
    row_with 3 (codes "BadPath")
    (codes "A path does not begin with `/`, is longer than 4,096 bytes, or has an empty part or a part `.` or `..`.")
    (codes "In a script, give a path that follows these rules.") ∷
    row_with 10 (codes "BadId")
    (codes "At the printed address of the volume there is no block of level `BB01` or `BB02`.")
    (codes "Check that the file is a volume and not packed, and try another copy; without one, choose an earlier moment.") ∷
    row_with 11 (codes "BadBlockSize")
    (codes "The block at the printed address of the volume states a size below that of its header or above 4,194,304 bytes.")
    (codes "Try another copy; without one, choose an earlier moment.") ∷
    row_with 12 (codes "Truncated")
    (codes "The volume ends inside a block header, or inside a block that the restore needs.")
    (codes "Copy the volume again, since it is probably cut off; without a whole one, choose an earlier moment.") ∷
    row_with 13 (codes "DriveFault")
    (codes "A drive failed while it read a volume.")
    (codes "A restore reads on with others; after `check` do what 70 says.") ∷
    row_with 14 (codes "UnknownVolume")
    (codes "The volume is not in the folder of volumes.")
    (codes "Copy it there under exactly this name, or correct `--volumes`. If it is lost, delete its groups from the bootstrap, or choose an earlier moment.") ∷
    row_with 15 (codes "TooLarge")
    (codes "A file to be saved has more than 1,073,741,824 bytes.")
    (codes "Only library calls return it: save the file in smaller parts.") ∷
    row_with 16 (codes "BadFileOrder")
    (codes "A hard link to be saved names no earlier file, or the session has too many files.")
    (codes "In a script, save a file before its hard links.") ∷
    row_with 17 (codes "BadSavedFile")
    (codes "Type, path, bytes and link text of a file to be saved do not fit together.")
    (codes "In a script, end the paths of folders alone in `/`, and give bytes to regular files and texts to links alone.") ∷
    row_with 20 (codes "BadNumber")
    (codes "A number in a file's attributes cannot be read.")
    (codes "In a script, write each number of `put` in Bacula's base 64; for such a file on a volume a restore prints 64.") ∷
    row_with 21 (codes "MissingField")
    (codes "A field or a number is missing in a file's attributes.")
    (codes "In a script, give `put` at least thirteen numbers; for such a file on a volume a restore prints 64.") ∷
    row_with 22 (codes "BadName (attributes)")
    (codes "The path in a file's attributes is not allowed.")
    (codes "Only library calls return it: a restore prints 64 for the file.") ∷
    row_with 23 (codes "IndexDiffers")
    (codes "A file's attributes name another FileIndex than their record does.")
    (codes "Only library calls return it: a restore prints 64 for the file.") ∷
    row_with 30 (codes "VolumeFirst")
    (codes "The printed line of the bootstrap comes before the first `Volume` line.")
    (codes "Begin each group of lines with its `Volume` line.") ∷
    row_with 31 (codes "UnknownKeyword")
    (codes "The printed line of the bootstrap begins with no keyword of bootstraps.")
    (codes "Correct the keyword; check that the file is a bootstrap.") ∷
    row_with 32 (codes "UnsupportedKeyword")
    (codes "The printed line of the bootstrap has a keyword of Bacula that this program does not support.")
    (codes "Delete the line if the volume, session and index lines choose the right files alone; else use `bextract`.") ∷
    row_with 33 (codes "BadValue")
    (codes "The printed line of the bootstrap has no `=`, an open quote, or a value that is not allowed.")
    (codes "Correct the value: docs/formats.md lists what each keyword takes.") ∷
    row_with 34 (codes "TooLong")
    (codes "The printed line of the bootstrap has more than 4,096 bytes.")
    (codes "Split its list into several lines with the same keyword.") ∷
    row_with 40 (codes "DuplicateJob")
    (codes "The history has a job with this JobId already.")
    (codes "In a script, give the job a JobId of its own.") ∷
    row_with 41 (codes "DuplicateSession")
    (codes "The history has a job with this VolSessionId and VolSessionTime already.")
    (codes "In a script, give the job a session of its own.") ∷
    row_with 42 (codes "BadRow")
    (codes "The rows of a job contradict each other, or its spans pass their limits.")
    (codes "In a script, correct the job by the rules in docs/formats.md.") ∷
    row_with 43 (codes "RetiredVolume")
    (codes "An append or sync of the volume failed earlier, or its length is not the catalogue's.")
    (codes "In a script, name another volume in `place`.") ∷
    row_with 44 (codes "VolumeFault")
    (codes "Bytes could not be appended to a volume or synced, or its length not read.")
    (codes "Free memory, or check space and permissions; then name another volume in `place`.") ∷
    row_with 45 (codes "StoreFault")
    (codes "The catalogue is missing, empty, in use, cannot be opened, or is no sound database with the tables of this program.")
    (codes "Check `--db`, and whether you may read it. If a `-journal` lies beside the file, let `sqlite3` open it once, in a folder that can be written. Copy a file that has a second name (a hard link). Else try another copy, or use `restore` with a bootstrap; import a catalogue of Bacula's.") ∷
    row_with 46 (codes "StoredNotPublished")
    (codes "The job is in the catalogue, but restores do not see it yet.")
    (codes "In a script, free memory and commit again, which publishes the job first.") ∷
    row_with 47 (codes "BadCatalogue")
    (codes "The catalogue is not of version 2, for `migrate` not of version 1, or its rows contradict each other.")
    (codes "If `migrate` says it, try `console`; else try another copy, or use `restore` with a bootstrap.") ∷
    row_with 48 (codes "OldCatalogue")
    (codes "The catalogue is of version 1, which this program no longer reads as it is.")
    (codes "Keep a copy of the file, and make it version 2 with `migrate`.") ∷ []

-- every row from 50 on
abbrev pub rows_from_50 : List Row
rows_from_50 =
    row_with 50 (codes "NoFull")
    (codes "No good Full backup of this client and file set began before the moment.")
    (codes "Choose a later moment, in UTC, or use `restore` with a bootstrap.") ∷
    row_with 51 (codes "NothingMarked")
    (codes "No path was marked when `done` was typed, or no pattern of `restore` meets a path.")
    (codes "Run the command again, and mark paths before `done`, or name paths that `console` lists.") ∷
    row_with 52 (codes "BadMoment")
    (codes "The value of `--before` is not a moment.")
    (codes "Write it in quotes, in UTC and with all digits, such as `'2026-11-21 23:15:45'`.") ∷
    row_with 53 (codes "UnknownClient")
    (codes "No job in the catalogue names this client.")
    (codes "Take the client's name from the list that `brestore jobs` prints; upper and lower case differ.") ∷
    row_with 54 (codes "UnknownFileSet")
    (codes "No job of this client names this file set.")
    (codes "Take the file set's name from the list that `brestore jobs` prints; upper and lower case differ.") ∷
    row_with 55 (codes "UnknownCommand")
    (codes "The line is no console command with its arguments, or has more than 4,096 bytes.")
    (codes "Type `cd`, `pwd`, `ls`, `mark`, `unmark`, `markdir`, `unmarkdir`, `count`, `lsmark`, `find`, `estimate`, `done` or `quit`; at a terminal also `help` or `dir`.") ∷
    row_with 56 (codes "NoSuchDirectory")
    (codes "The argument of `cd` is no directory at this moment.")
    (codes "Look with `pwd` and `ls`, and type names without quotes; only a terminal takes escapes. For a file go to its folder.") ∷
    row_with 57 (codes "NoMatch")
    (codes "Nothing in the current directory matches the pattern, or for `find` nothing at all.")
    (codes "Type one name of this folder, without `/` or quotes; only a terminal takes escapes. `cd` goes to another folder, `ls` and `find` show names. Else choose another moment.") ∷
    row_with 58 (codes "StrangerPiece")
    (codes "The hits that were handed in belong to a piece that the restore does not have.")
    (codes "Only library calls return it: hand in hits of the restore's own pieces.") ∷
    row_with 59 (codes "NotEnabled")
    (codes "The model of restores cannot take this event in its state.")
    (codes "Only library calls return it: it belongs to the model in docs/model.md.") ∷
    row_with 60 (codes "Orphan")
    (codes "A continuation of a record comes without the beginning.")
    (codes "Give the groups of a bootstrap in the order of writing; else try another copy or choose an earlier moment.") ∷
    row_with 61 (codes "Torn")
    (codes "A record of the file is not continued or not finished.")
    (codes "Check that the bootstrap names all volumes, in the order of writing; else try another copy or choose an earlier moment.") ∷
    row_with 62 (codes "SizeDiffers")
    (codes "A continuation of a record states another number of bytes than are still to come.")
    (codes "Give the groups of a bootstrap in the order of writing. If `check` prints a line `label`, that volume has another one's name: rename it. Else try another copy or choose an earlier moment.") ∷
    row_with 63 (codes "NoAttributes")
    (codes "The volumes have no attribute record of the file, or no part at all of a planned file.")
    (codes "Copy the volume again, since it may be cut, and check that it belongs to the catalogue: once Bacula recycles a volume, its older jobs are lost. Else try another copy or choose another moment.") ∷
    row_with 64 (codes "BadAttributes")
    (codes "The file has two attribute records, or one that cannot be read.")
    (codes "Try another copy or choose an earlier moment; of a Virtual Full use `bextract`.") ∷
    row_with 65 (codes "Unsupported")
    (codes "The file has data of a stream that is not supported, such as compressed data; the stream's number follows.")
    (codes "Restore the file with Bacula's `bextract`; if its data are encrypted or of Windows, with the Director and the client.") ∷
    row_with 66 (codes "DigestDiffers")
    (codes "The file has two MD5 digests, or one that is not that of its bytes.")
    (codes "The file was not written: try another copy or choose an earlier moment.") ∷
    row_with 67 (codes "SparseBack")
    (codes "A sparse record of the file has no address, or one before the end of what came before.")
    (codes "Try another copy or choose an earlier moment.") ∷
    row_with 68 (codes "TooLarge")
    (codes "The file would have more than 1,073,741,824 bytes.")
    (codes "Restore the file with Bacula's `bextract`, which takes the same bootstrap.") ∷
    row_with 69 (codes "NameDiffers")
    (codes "The file has another path on the volume than in the catalogue.")
    (codes "Try another copy, and check that volumes and catalogue belong together; else choose an earlier moment.") ∷
    row_with 70 (codes "NoDriveLeft")
    (codes "Every drive failed before all volumes were read.")
    (codes "Check that `--volumes` is a folder, permissions and the system's log; run the command again or try another copy.") ∷
    row_with 71 (codes "MissingSeat")
    (codes "A thread's list of the numbers that it drew is missing.")
    (codes "Only library calls return it: keep the list of each thread.") ∷
    row_with 72 (codes "VolumeChanged")
    (codes "A volume was changed during the restore: bytes of a file are no longer what they were.")
    (codes "Find out who changes it, since a backup only appends. Run the command again when nobody does, or try another copy.") ∷
    row_with 80 (codes "SinkFault")
    (codes "A file or folder could not be written, or its path is not UTF-8.")
    (codes "The first file of the manifest that is not whole is the one: check space and whether you may write there, or leave it out. A tar file needs room for all files.") ∷
    row_with 81 (codes "PathInTheWay")
    (codes "The folder of `--into` does not exist or is not empty, or the file of `--tar` is there already; or one path of the restore is both a file and a folder.")
    (codes "Make an empty folder for `--into`, or name a new file for `--tar`; if the manifest was printed, restore the two paths into two folders.") ∷
    row_with 90 (codes "BadScript")
    (codes "The printed line of the script fits no form, or comes at a wrong place.")
    (codes "Correct the line: docs/formats.md lists the forms.") ∷
    []

-- every row, in order of number
abbrev pub all_rows : List Row
all_rows = rows_below_50 ++ rows_from_50
