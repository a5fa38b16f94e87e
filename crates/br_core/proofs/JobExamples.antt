-- A job that is committed to empty volumes, by example.
use Rattle.std.proofs.Common.{ℕ, List, [], ◌∷◌, ◌++◌, take, drop, Some, None, false, refl, lit≤}
use Rattle.std.specs.Prelude.{codes, pos, negsuc, ℤ}
use Rattle.br_model.specs.Name.{SessionKey}
use Rattle.br_model.specs.Attribute.{stat_from}
use Rattle.br_model.specs.Block.{Fragment}
use Rattle.br_model.specs.Volume.{Volume, volume_bytes, Extends, LaidBlock}
use Rattle.br_model.specs.Record.{Record}
use Rattle.br_model.specs.Job.{JobRow, Span, SavedFile, Job, IsJob}
use Rattle.br_model.specs.Session.{Written, IsWritten, written_block}
use Rattle.br_model.specs.Stored.{is_in_span, Holds}
use Rattle.br_model.proofs.VolumeLaws.{walk_is_exact_lem}
use Rattle.br_model.proofs.RecordLaws.{joined_is_cut}
use Rattle.br_core.specs.Machine.{World, ToCommit, IsStart, IsStep, job_of}
use Rattle.br_core.specs.Machine.Event.{Commit}
use Rattle.br_core.specs.Machine.Reply.{Done}
use Rattle.br_core.proofs.Computing.{computing}

-- ---- the job

unfoldable pub key : SessionKey
key = record { id = 1; time = 100 }

unfoldable pub data_of_file : List ℕ
data_of_file = codes "message digest"

unfoldable pub saved : SavedFile
saved = record {
  path = codes "/a";
  kind = 3;
  stat = stat_from (pos 0 ∷ pos 0 ∷ pos 33188 ∷ pos 1 ∷ pos 0 ∷ pos 0 ∷ pos 0 ∷ pos 14 ∷ []);
  link = [];
  bytes = data_of_file;
}

unfoldable pub row : JobRow
row = record { id = 1; kind = 66; level = 70; status = 84; start = 100; session = key; client = codes "c"; fileset = codes "f" }

-- blocks of at most 64 bytes, the first on A, all others on B
unfoldable pub to_commit : ToCommit
to_commit = record {
  row = row;
  files = record { file = saved; digest = false } ∷ [];
  deleted = [];
  limit = 64;
  places = record { volume = codes "A"; blocks = 1 } ∷ record { volume = codes "B"; blocks = 0 } ∷ [];
}

-- 38 bytes of attributes
unfoldable pub attributes : List ℕ
attributes = codes "1 3 /a" ++ 0 ∷ codes "A A IGk B A A A O A A A A A A" ++ 0 ∷ 0 ∷ []

unfoldable pub records : List Record
records = record { index = 1; stream = 1; bytes = attributes } ∷ record { index = 1; stream = 2; bytes = data_of_file } ∷ []

unfoldable pub part : ℤ → ℕ → List ℕ → Fragment
part stream size bytes = record { session = key; index = pos 1; stream = stream; size = size; bytes = bytes }

unfoldable pub first : Fragment
first = part (pos 1) 38 (take 28 attributes)

unfoldable pub second : Fragment
second = part (negsuc 0) 10 (drop 28 attributes)

unfoldable pub third : Fragment
third = part (pos 2) 14 (take 6 data_of_file)

unfoldable pub fourth : Fragment
fourth = part (negsuc 1) 8 (drop 6 data_of_file)

unfoldable pub block_0 : List ℕ
block_0 = written_block key (0, first ∷ [])

unfoldable pub block_1 : List ℕ
block_1 = written_block key (1, second ∷ third ∷ [])

unfoldable pub block_2 : List ℕ
block_2 = written_block key (2, fourth ∷ [])

-- what the commit leaves
unfoldable pub volumes : List Volume
volumes = record { name = codes "A"; bytes = block_0 } ∷ record { name = codes "B"; bytes = block_1 ++ block_2 } ∷ []

unfoldable pub span : List ℕ → ℕ → ℕ → ℕ → Span
span volume number start end = record { volume = volume; first = 1; last = 1; start = start; end = end; vol_index = number }

unfoldable pub written : Written
written = record {
  blocks = (codes "A", block_0) ∷ (codes "B", block_1) ∷ (codes "B", block_2) ∷ [];
  spans = span (codes "A") 1 0 63 ∷ span (codes "B") 2 0 107 ∷ [];
}

unfoldable pub job : Job
job = job_of to_commit written.spans

unfoldable pub committing : Unit {0}
unfolding key data_of_file saved row to_commit attributes records part first second third fourth block_0 block_1 block_2 volumes span written job computing
committing = tt

unfoldable pub is_written : IsWritten to_commit.files key 64 to_commit.places [] written
unfolding committing
is_written = record {
  blocks = block_0 ∷ block_1 ∷ block_2 ∷ [];
  packed = record {
    parts = (first ∷ []) ∷ (second ∷ third ∷ []) ∷ (fourth ∷ []) ∷ [];
    of_session = (refl, (refl, (refl, (refl, tt))));
    cut = joined_is_cut 1 None _ records (record { index_is = refl; within = lit≤ tt }, (record { index_is = refl; within = lit≤ tt }, (record { index_is = refl; within = lit≤ tt }, (record { index_is = refl; within = lit≤ tt }, tt)))) tt refl;
    closed = (
      (lit≤ tt, lit≤ tt, (lit≤ tt, λ _. lit≤ tt)),
      (lit≤ tt, λ _. refl),
      ((lit≤ tt, lit≤ tt, (refl, (lit≤ tt, λ _. lit≤ tt))), (lit≤ tt, λ _. refl), (lit≤ tt, lit≤ tt, (lit≤ tt, λ _. lit≤ tt))),
    );
    bytes_are = refl;
  };
  placed = refl;
  spans_are = refl;
}

unfoldable pub is_job : IsJob job
unfolding committing
is_job = record { fit = refl; say = refl }

unfoldable pub laid : ℕ → List ℕ → LaidBlock
laid address block_bytes = record { address = address; bytes = block_bytes }

unfoldable pub on_a : List LaidBlock
on_a = laid 0 block_0 ∷ []

unfoldable pub on_b : List LaidBlock
on_b = laid 0 block_1 ∷ laid 64 block_2 ∷ []

-- the volumes hold the job
unfoldable pub holds : Holds volumes job
unfolding laid on_a on_b committing
holds = record {
  blocks = on_a ∷ on_b ∷ [];
  laid = (
    record {
      bytes = _;
      all = on_a;
      found = refl;
      laid = (walk_is_exact_lem _ (Some 63) (is_in_span (span (codes "A") 1 0 63)) on_a).0 refl;
      blocks_are = refl;
      first = _;
      first_among = (0, lit≤ tt, refl);
      first_begins = refl;
      last = _;
      last_among = (0, lit≤ tt, refl);
      last_ends = refl;
    },
    (
      record {
        bytes = _;
        all = on_b;
        found = refl;
        laid = (walk_is_exact_lem _ (Some 107) (is_in_span (span (codes "B") 2 0 107)) on_b).0 refl;
        blocks_are = refl;
        first = laid 0 block_1;
        first_among = (0, lit≤ tt, refl);
        first_begins = refl;
        last = laid 64 block_2;
        last_among = (1, lit≤ tt, refl);
        last_ends = refl;
      },
      tt,
    ),
  );
  in_span = ((refl, tt), ((refl, (refl, (refl, tt))), tt));
  records = records;
  cut = joined_is_cut 1 None _ records (record { index_is = refl; within = lit≤ tt }, (record { index_is = refl; within = lit≤ tt }, (record { index_is = refl; within = lit≤ tt }, (record { index_is = refl; within = lit≤ tt }, tt)))) tt refl;
  files = ((_, refl, refl), tt);
  no_others = (refl, (refl, tt));
}

-- ---- the commit

unfoldable pub nothing : World
nothing = record { jobs = []; volumes = []; earlier = []; restores = [] }

unfoldable pub committed : World
committed = record { jobs = job ∷ []; volumes = volumes; earlier = [] ∷ []; restores = [] }

unfoldable pub begins : IsStart nothing
unfolding nothing committing
begins = record { history = refl; are_jobs = tt; none = refl }

unfoldable pub more_than_nothing : (vs : List Volume) → Extends vs []
unfolding volume_bytes
more_than_nothing vs name bytes found = absurd cc

unfoldable pub commits : IsStep nothing (Commit to_commit) Done committed
unfolding nothing committed committing
commits = record {
  written = written;
  is_written = is_written;
  fits = refl;
  is_job = is_job;
  jobs_are = refl;
  extend = more_than_nothing volumes;
  holds = holds;
  earlier_are = refl;
  restores_are = refl;
}
