-- The first line of a job.
use Rattle.std.specs.Prelude.{ℕ, nat_le, ◌&&◌, if◌then◌else◌, List, Result, Ok, Err}
use Rattle.br_model.specs.Answer.{◌>>=◌}
use Rattle.br_model.specs.Name.{SessionKey}
use Rattle.br_model.specs.Job.{JobRow}
use Rattle.br_history.specs.JobFields.{field, last_field, letter_said, name_said, number_said}

-- the row of a job, and the greatest size of its blocks
pub record Begun : Type 0 where
  pub row : JobRow
  pub limit : ℕ

-- a job's number, type, level and status
pub record Kinds : Type 0 where
  pub id : ℕ
  pub kind : ℕ
  pub level : ℕ
  pub status : ℕ

-- a job's start, its session, and the greatest size of its blocks
pub record Numbers : Type 0 where
  pub start : ℕ
  pub session : SessionKey
  pub limit : ℕ

-- the number of a job, from 1 to 2 ^ 32 - 1
unfoldable pub job_id_said : List ℕ → Result ℕ ℕ
job_id_said text = number_said 4294967295 text >>= (λ n. if nat_le 1 n then Ok n else Err 90)

-- the greatest size of blocks, from 64 to 64,512
unfoldable pub limit_said : List ℕ → Result ℕ ℕ
limit_said text = number_said 4294967295 text >>= (λ n. if nat_le 64 n && nat_le n 64512 then Ok n else Err 90)

unfoldable pub kinds_said : List ℕ → Result (Kinds × List ℕ) ℕ
kinds_said text = do
  id ← field text
  kind ← field id.1
  level ← field kind.1
  status ← field level.1
  i ← job_id_said id.0
  k ← letter_said kind.0
  l ← letter_said level.0
  s ← letter_said status.0
  Ok (record { id = i; kind = k; level = l; status = s }, status.1)

unfoldable pub numbers_said : List ℕ → Result (Numbers × List ℕ) ℕ
numbers_said text = do
  start ← field text
  id ← field start.1
  time ← field id.1
  limit ← field time.1
  n ← number_said 18446744073709551615 start.0
  i ← number_said 4294967295 id.0
  t ← number_said 4294967295 time.0
  l ← limit_said limit.0
  Ok (record { start = n; session = record { id = i; time = t }; limit = l }, limit.1)

-- a client and a file set
unfoldable pub names_said : List ℕ → Result (List ℕ × List ℕ) ℕ
names_said text = do
  client ← field text
  fileset ← last_field client.1
  c ← name_said client.0
  f ← name_said fileset
  Ok (c, f)

-- the row and the greatest size that these state
abbrev pub begun : Kinds → Numbers → List ℕ × List ℕ → Begun
begun k n names = record {
  row = record {
    id = k.id;
    kind = k.kind;
    level = k.level;
    status = k.status;
    start = n.start;
    session = n.session;
    client = names.0;
    fileset = names.1;
  };
  limit = n.limit;
}

-- the beginning of a job
unfoldable pub head_said : List ℕ → Result Begun ℕ
head_said text = do
  kinds ← kinds_said text
  numbers ← numbers_said kinds.1
  names ← names_said numbers.1
  Ok (begun kinds.0 numbers.0 names)
