-- What an example opens to compute a run (as in br_model).
use Rattle.std.specs.Fmt.{digits}
use Rattle.md5.specs.Md5.{md5, hash_after, compress, rounds, block_words, digest_bytes}
use Rattle.br_model.specs.Order.{put_all, ranked, in_order, without_repeats}
use Rattle.br_model.specs.Text.{words, decimal_value, hexadecimal, escaped, trim_front, trim_by}
use Rattle.br_model.specs.Number.{digit64, magnitude, read_number, without_zeros, write_magnitude, write_number}
use Rattle.br_model.specs.Name.{is_name, is_volume_name, are_components, is_path}
use Rattle.br_model.specs.Attribute.{stat_from, read_numbers, read_stat, write_stat, field, read_positive, read_attributes, write_attributes}
use Rattle.br_model.specs.Block.{header_bytes, read_header, read_block, fragment_bytes, fragments_in, fragments_of}
use Rattle.br_model.specs.Volume.{volume_bytes, blocks_from, blocks_of}
use Rattle.br_model.specs.Record.{with_fragment, join_from, join}
use Rattle.br_model.specs.File.{attributes_of, unsupported, extent_of, extents_from, bytes_from, digest_fits, file_bytes, content}
use Rattle.br_model.specs.Bootstrap.{hits, canonical}
use Rattle.br_model.specs.Meaning.{bound_of, groups_on, pieces_of, first_hitting, hits_in, hits_among, hits_on, hits_on_each, meaning}
use Rattle.br_model.specs.Restored.{fragments_for, outcome_of, under_name, files_found, files_planned, files_listed, files}
use Rattle.br_model.specs.Manifest.{totals_of, manifest}
use Rattle.br_model.specs.Job.{no_pair, are_rows, is_job_row, checked_rows, pushed}
use Rattle.br_model.specs.Choice.{candidates, last_job, chosen_of, choose}
use Rattle.br_model.specs.View.{entry_of, paths_of, view_of, entry_at}
use Rattle.br_model.specs.Console.{read_words, read_command, tails, matches, children, matching, walk, resolve, meant, meant_directories, marked_bytes, apply, marks_after, answers, console_lines, dialogue, marks_at_done}
use Rattle.br_model.specs.Plan.{wanted, selection, ranges_of, plan_groups, plan_names, plan_of}
use Rattle.br_model.specs.Moment.{is_moment, seconds_of, is_moment_text, read_moment}
use Rattle.br_model.specs.Volume.{next_block}
use Rattle.br_model.specs.Session.{can_be_saved, checked_file, checked_order, data_records, file_records, visits, spans_from, checked_spans, rows_of}
use Rattle.br_model.specs.Stored.{file_fragments}
use Rattle.br_match.specs.Walk.{step_among, step_on}
use Rattle.br_core.specs.Machine.{plan_for}

unfoldable pub computing : Unit {0}
unfolding digits md5 hash_after compress rounds block_words digest_bytes put_all ranked in_order without_repeats words decimal_value hexadecimal escaped trim_front trim_by digit64 magnitude read_number without_zeros write_magnitude write_number is_name is_volume_name are_components is_path stat_from read_numbers read_stat write_stat field read_positive read_attributes write_attributes header_bytes read_header read_block fragment_bytes fragments_in fragments_of volume_bytes blocks_from blocks_of with_fragment join_from join attributes_of unsupported extent_of extents_from bytes_from digest_fits file_bytes content hits canonical bound_of groups_on pieces_of first_hitting hits_in hits_among hits_on hits_on_each meaning fragments_for outcome_of under_name files_found files_planned files_listed files totals_of manifest no_pair are_rows is_job_row checked_rows pushed candidates last_job chosen_of choose entry_of paths_of view_of entry_at read_words read_command tails matches children matching walk resolve meant meant_directories marked_bytes apply marks_after answers console_lines dialogue marks_at_done wanted selection ranges_of plan_groups plan_names plan_of is_moment seconds_of is_moment_text read_moment can_be_saved checked_file checked_order data_records file_records visits spans_from checked_spans rows_of file_fragments step_among step_on next_block plan_for
computing = tt
