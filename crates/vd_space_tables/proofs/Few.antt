-- There are few protocols.
use Rattle.std.proofs.Common.{◌≡◌, ℕ, zero, suc, ◌+◌, ◌^◌, ◌≤◌, ◌++◌, length, map, arith}
use Rattle.std.specs.Prelude.{nat_le}
use Rattle.std.specs.List.{range_with_len}
use Rattle.std.proofs.lemmas.List.{length-map, length-append}
use Rattle.std.proofs.lemmas.List.FromFn.{length-range_with_len}
use Rattle.vd_base.specs.declared.protocols.Proto.TheVariants.{Local, Rep, Commit, Add, Xor}
use Rattle.vd_base.specs.HostSets.{host_set, hosts, size}
use Rattle.vd_space.proofs.Front.{fewer}
use Rattle.vd_base.specs.Protocols.{groups, pairs, differ, is_earlier, protocols_of}

sum_of : (n : ℕ) → length (protocols_of n) ≡ length (hosts n) + length (groups n) + length (pairs differ Commit n) + length (pairs is_earlier Add n) + length (pairs is_earlier Xor n)
sum_of n =
    let locals = map Local (hosts n) in
    let copies = map Rep (groups n) in
    let commits = pairs differ Commit n in
    let adds = pairs is_earlier Add n in
    let first = length-append locals copies in
    let second = length-append (locals ++ copies) commits in
    let third = length-append (locals ++ copies ++ commits) adds in
    let fourth = length-append (locals ++ copies ++ commits ++ adds) (pairs is_earlier Xor n) in
    let local_size = length-map (hosts n) Local in
    let copy_size = length-map (groups n) Rep in
    omega (arith, first, second, third, fourth, local_size, copy_size)

few_groups : (n : ℕ) → length (groups n) ≤ 2 ^ n
few_groups n =
    let all = fewer (λ set. nat_le 2 (size set)) (map host_set (range_with_len 0 (2 ^ n))) in
    let same = length-map (range_with_len 0 (2 ^ n)) host_set in
    let count = length-range_with_len 0 (2 ^ n) in
    omega (arith, all, same, count)

few_pairs : (n : ℕ) → n ≤ 4 → length (hosts n) + length (pairs differ Commit n) + length (pairs is_earlier Add n) + length (pairs is_earlier Xor n) ≤ 28
few_pairs zero low = omega arith
few_pairs (suc zero) low = omega arith
few_pairs (suc (suc zero)) low = omega arith
few_pairs (suc (suc (suc zero))) low = omega arith
few_pairs (suc (suc (suc (suc zero)))) low = omega arith
few_pairs (suc (suc (suc (suc (suc n))))) low = absurd (omega arith)

power : (n : ℕ) → n ≤ 4 → 2 ^ n ≤ 16
power zero low = omega arith
power (suc zero) low = omega arith
power (suc (suc zero)) low = omega arith
power (suc (suc (suc zero))) low = omega arith
power (suc (suc (suc (suc zero)))) low = omega arith
power (suc (suc (suc (suc (suc n))))) low = absurd (omega arith)

pub few_protocols : (n : ℕ) → n ≤ 4 → length (protocols_of n) ≤ 64
few_protocols n low =
    let whole = sum_of n in
    let most_groups = few_groups n in
    let most_pairs = few_pairs n low in
    let most_power = power n low in
    omega (arith, whole, most_groups, most_pairs, most_power)
