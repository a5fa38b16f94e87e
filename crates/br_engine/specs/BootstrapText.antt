-- Texts of bootstraps that are refused whatever follows, so that reading may stop at them.
use Rattle.std.specs.Prelude.{◌≡◌, ◌≤◌, ℕ, ◌-◌, Bool, false, not, ◌&&◌, nat_le, ◌==◌, List, ◌++◌, length, drop, Option, IfSome, Result, OnOk}
use Rattle.std.specs.Io.KnownBytes.{Consumes}
use Rattle.std.specs.List.{list_any}
use Rattle.br_model.specs.BootstrapText.{read_bootstrap}

-- the LF that ends a line
abbrev pub is_line_end : ℕ → Bool
is_line_end c = c == 10

-- The last line has no LF yet and more than 4,097 bytes. So it is too long, even if its last byte
-- is a CR and an LF follows.
unfoldable pub has_long_end : List ℕ → Bool
has_long_end text = nat_le 4098 (length text) && not (list_any is_line_end (drop (length text - 4098) text))

-- whatever follows, the text is read as it is now
abbrev pub IsSettled : List ℕ → Type 0
IsSettled text = (more : List ℕ) → read_bootstrap (text ++ more) ≡ read_bootstrap text

-- the text gives the same groups, or the same refused line, as the whole rest of a reader, if this
-- is known
abbrev pub ReadsAs : List ℕ → Option (List ℕ) → Type 0
ReadsAs text known = IfSome known (λ bytes. read_bootstrap text ≡ read_bootstrap bytes)

-- what was read was appended to a text: if it was all that a reader gave, as far as this is known,
-- it still is
abbrev pub GrowsAsRead : {A E : Type 0} → Option (List ℕ) → Option (List ℕ) → List ℕ → List ℕ → Result A E → Type 0
GrowsAsRead old new before after result = (known : Option (List ℕ)) → Consumes known old before → OnOk result (Consumes known new after)

-- the text after one turn of reading: at most `most` bytes were added
abbrev pub GrowsBy : ℕ → List ℕ → List ℕ → Type 0
GrowsBy most before after = (part : List ℕ) × (after ≡ before ++ part) × (length part ≤ most)

-- by the length of its last line, the text without its last 8,192 bytes could still have been a
-- bootstrap
abbrev pub StopsInTime : List ℕ → Type 0
StopsInTime text = (front : List ℕ) × (has_long_end front ≡ false) × GrowsBy 8192 front text
