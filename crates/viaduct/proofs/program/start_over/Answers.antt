use Rattle.viaduct.proofs.program.start_over.Goals as goal

pub returns : goal.returns
returns g c = record {
  files = g.F.Files.view c.start-status.new.outside.files;
  err = g.E.Sink.view c.start-status.new.outside.err;
  later_files = g.F.Files.view c.say_more.new.files;
  later_err = g.E.Sink.view c.say_more.new.err;
  starts = c.start-status.ensures;
  said = c.say_more.result;
  more = c.say_more.ensures;
  told = c.say_wraps.result;
  wraps = c.say_wraps.ensures;
}
