-- All lists of so many bits, each of cost 0: a tree that shows that the trait can be met.
use Rattle.std.specs.Prelude.{◌≡◌, ℕ, ◌<◌, ◌≤◌, nat_lt, Bool, true, false, IsTrue, List, [], ◌∷◌, ◌++◌, length, pos, refl}
use Rattle.std.proofs.Common.{sym, ap, arith}
use Rattle.std.specs.List.{list_all}
use Rattle.std.proofs.lemmas.Int.{ints}
use Rattle.std.proofs.lemmas.Bool.{and_parts, and_from, ltb-true}
use Rattle.vd_search_tree.specs.Trees.{Tree, IsWhole, IsBounded}

abbrev pub is_bit : ℕ → Bool
is_bit c = nat_lt c 2

abbrev pub words : ℕ → Tree
words n = record { slots = n; choices = 2; valid = list_all is_bit; bound = λ _. pos 0 }

closed : (prefix rest : List ℕ) → IsTrue (list_all is_bit (prefix ++ rest)) → IsTrue (list_all is_bit prefix)
closed [] rest all = refl
closed (c ∷ prefix) rest all = let parts = and_parts (is_bit c) (list_all is_bit (prefix ++ rest)) all in and_from (is_bit c) (list_all is_bit prefix) parts.0 (closed prefix rest parts.1)

listed : (prefix rest : List ℕ) (choice : ℕ) → IsTrue (list_all is_bit (prefix ++ choice ∷ rest)) → choice < 2
listed [] rest choice all = ltb-true choice 2 (and_parts (is_bit choice) (list_all is_bit rest) all).0
listed (c ∷ prefix) rest choice all = listed prefix rest choice (and_parts (is_bit c) (list_all is_bit (prefix ++ choice ∷ rest)) all).1

pub words_bounded : (n : ℕ) → IsBounded (words n)
words_bounded n = record {
  closed = closed;
  listed = listed;
  below = λ prefix rest whole. omega (arith, ints);
  fits = λ list whole. (0, omega arith, refl);
}
