-- What a line of the source tells.
use Rattle.std.proofs.Common.{◌≡◌, ℕ, ◌-◌, ◌<◌, ◌≤◌, List, [], length, drop, take, sym, ap, ◌∙◌, arith, length-drop}
use Rattle.std.proofs.Math.ListN.{drop_of_length-le}
use Rattle.std.proofs.Math.Seq.{take-length}
use Rattle.vd_cmd_data.specs.Names.{value_len, written_value}

pub nothing_told : (line : List ℕ) → length line < 7 → [] ≡ written_value line
nothing_told line few =
    let none : drop 7 line ≡ [] = drop_of_length-le line {i = 7} (omega (arith, few)) in
    sym (ap (λ (value : List ℕ). take (value_len value) value) none)

-- the value of `&line[7..]`
pub behind_word : (line : List ℕ) → take (length line - 7) (drop 7 line) ≡ drop 7 line
behind_word line = ap (λ (n : ℕ). take n (drop 7 line)) (sym (length-drop 7 line)) ∙ take-length (drop 7 line)
