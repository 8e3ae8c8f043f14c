-- What the parser's answer about a text tells of the token of this number, which is the last but for the end.
use Rattle.std.specs.Prelude.{ℕ, Bool, true, false, not, ◌==◌, Result, Ok, Err}
use Rattle.vd_core.specs.declared.source.Source.{Source}
use Rattle.vd_parser.specs.declared.fault.ParseFault.{ParseFault}
use Rattle.vd_parser.specs.declared.fault.ParseFault.TheVariants as fault
use Rattle.vd_diag_source.specs.declared.follow.FollowFault.{FollowFault}
use Rattle.vd_diag_source.specs.declared.follow.FollowFault.TheVariants.{TooLong, Memory}

abbrev pub judged : Result Source ParseFault → ℕ → Result Bool FollowFault
judged (Ok source) number = Ok true
judged (Err (fault.Unexpected k offset)) number = Ok (not (k == number))
judged (Err (fault.TooDeep offset)) number = Ok true
judged (Err (fault.BadByte offset)) number = Ok false
judged (Err (fault.TooLong len)) number = Err TooLong
judged (Err fault.Memory) number = Err Memory
