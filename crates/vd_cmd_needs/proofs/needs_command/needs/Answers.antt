use Rattle.std.proofs.lemmas.Result.{err_from_is_err_and}
use Rattle.vd_cmd_choice.specs.Searching.{GaveUp, searched_by}
use Rattle.vd_cmd_needs.proofs.Answered.{fetch_refused, fetched_then}
use Rattle.vd_cmd_needs.proofs.Told.{file_told}
use Rattle.vd_cmd_needs.proofs.needs_command.needs.Goals as goal

pub returns-in_err-bytes-clause-executes : goal.returns-in_err-bytes-clause-executes
returns-in_err-bytes-clause-executes g c = (
  GaveUp,
  λ certificates choices texts programs least.
      let p = err_from_is_err_and c.from_residual.result c.from_residual.ensures.1 in
      let loads = rw c.as_str.ensures at (c.in_err-bytes.ensures {u = tt}).loads in
      rw (p.1, p.2) (fetch_refused texts programs least choices (searched_by certificates choices GaveUp) c.args.words.now _ _ c.in_err-bytes.field-0.0 loads),
)

pub returns-clause-executes : goal.returns-clause-executes
returns-clause-executes g c =
    let s = c.needs_in_bytes.ensures.executes in
    let loads = rw c.as_str.ensures at (c.in_ok-bytes.ensures {u = tt}).loads in (
      s.0,
      λ certificates choices texts programs least.
          fetched_then texts programs least choices (searched_by certificates choices s.0) c.args.words.now _ _ c.in_ok-bytes.bytes c.as_slice.result.now _ loads c.as_slice.ensures (s.1 certificates choices texts programs least _),
    )

pub returns-clause-tells : goal.returns-clause-tells
returns-clause-tells g c =
    let loads = rw c.as_str.ensures at (c.in_ok-bytes.ensures {u = tt}).loads in
    file_told c.args.words.now _ _ c.in_ok-bytes.bytes c.as_slice.result.now c.needs_in_bytes.result loads c.as_slice.ensures c.needs_in_bytes.ensures.tells
