use Rattle.std.proofs.Common.{◌≡◌, ◌+◌, ◌-◌, ◌*◌, ◌<◌, ◌^◌, drop}
use Rattle.std.specs.List.{fold}
use Rattle.vd_base.specs.Lexical.{decimal_value}
use Rattle.vd_cmd.proofs.numbers.value.Given as goal

-- the digits that are left bring the value so far to the whole value
abbrev pub invariant-loop-digit : goal.invariant-loop-digit
invariant-loop-digit l = record {
  fits : l.value < 2 ^ 64;
  whole : fold (λ n d. n * 10 + (d - 48)) l.value (drop l.digit-index l.text) ≡ decimal_value l.text;
}
