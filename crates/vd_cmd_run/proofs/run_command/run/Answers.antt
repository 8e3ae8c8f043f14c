use Rattle.std.proofs.Common.{[], Ok, Err, refl}
use Rattle.vd_cmd_run.specs.Running.{Refused}
use Rattle.vd_cmd_run.proofs.Ways.{compiles_for, hosts_for}
use Rattle.vd_cmd_run.proofs.run_command.run.Goals as goal

pub returns-in-Ok : goal.returns-in-Ok
returns-in-Ok g c =
    let before = g.F.Files.view c.args.files.now in
    let after = g.F.Files.view c.compile_for.new.files in
    record {
      compiled = after;
      came = Ok c.in-Ok.compiled.answer;
      names = c.in-Ok.compiled.names;
      executes = compiles_for c.args.words.now.source c.as_str.result.now c.args.words.now.prefix c.as_str-2.result.now before after (Ok c.in-Ok.compiled) c.as_str.ensures c.as_str-2.ensures (c.in-Ok.ensures {u = tt}).compiles;
      hosts = λ told. hosts_for c.args.words.now.source c.as_str.result.now before.contents c.in-Ok.compiled.names c.as_str.ensures ((c.in-Ok.ensures {u = tt}).hosts told);
      plays = c.play_answer.ensures;
    }

pub returns-in-Err : goal.returns-in-Err
returns-in-Err g c =
    let before = g.F.Files.view c.args.files.now in
    let after = g.F.Files.view c.compile_for.new.files in
    record {
      compiled = after;
      came = Err c.in-Err.status;
      names = [];
      executes = compiles_for c.args.words.now.source c.as_str.result.now c.args.words.now.prefix c.as_str-2.result.now before after (Err c.in-Err.status) c.as_str.ensures c.as_str-2.ensures (c.in-Err.ensures {u = tt}).compiles;
      hosts = λ told. tt;
      plays = Refused c.in-Err.status refl;
    }
