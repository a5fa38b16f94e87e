use Rattle.std.proofs.Common.{◌≡◌, ℕ, ◌≤◌, length, take, drop, get_or, pos}
use Rattle.br_model.specs.Attribute.{read_numbers}
use Rattle.br_model.specs.Text.{words}
use Rattle.br_attr.specs.Numbers.{behind}
use Rattle.br_attr.proofs.stat.numbers_in.Given as goal

-- what is read is the numbers so far and those of the words that are left; zeros follow the numbers
-- so far
abbrev pub invariant-loop-word : goal.invariant-loop-word
invariant-loop-word l = record {
  counts : l.count ≡ length l.yielded;
  size : length l.numbers ≡ 14;
  reads : behind (take l.count l.numbers) (read_numbers (drop l.count (take 14 (words l.text)))) ≡ read_numbers (take 14 (words l.text));
  zeros : (k : ℕ) → l.count ≤ k → get_or l.numbers k (pos 0) ≡ pos 0;
}
