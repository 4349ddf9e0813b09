-- The words that proofs are written in: the kit's and those of specs/, passed on so that a proof names them in one line. Nothing is defined here.
pub use mathlib.Core.Path.{◌∙◌, ◌≡◌, ap, ap₂, refl, subst, subst⁻¹, subst₂, sym}
pub use Prim.Native.Nat.{◌%◌, ◌*◌, ◌+◌, ◌-◌, ◌/◌, ◌<◌, ◌^◌, ◌≤◌, max, min, suc, zero, zero-le, ℕ}
pub use lib.ListN.{get_or-append, get_or-eq_default, get_or-map, drop, drop_of_length-le, get_or, get_or-replicate, length, length-append, length-drop, length-map, length-replicate, length-set, length-take, replicate, set, take, take-append-drop}
pub use mathlib.Core.Bool.{Bool, ◌&&◌, ◌||◌, and-false, and-true, cond, false, false≢true, not, or-false, or-true, true, true≢false}
pub use mathlib.Core.List.{List, [], ◌++◌, ◌∷◌, append_assoc, append-nil, map, map-append, map-map}
unfoldable pub use mathlib.Core.List.{flat_map}
pub use lib.IntN.{*ℤ_comm, *ℤ-negsuc, +ℤ_assoc, +ℤ_comm, +ℤ_idl, +ℤ_idr, +ℤ_invr, +ℤ-neg_ℤ_cancel, -ℤ-+ℤ_cancel, ◌*ℤ◌, ◌+ℤ◌, ◌-ℤ◌, nat_abs, negsuc, neg_ℤ, neg_ℤ-+ℤ, pos, sub_ℕ, zero-*ℤ, ℤ}
pub use borrow.Author.Tests.{eq-eqb, eqb-false, eqb-true, le-leb, le-ltb, leb-false, leb-true, lt-leb, lt-ltb, ltb-false, ltb-true, ne_eqb, not-false, not-true}
pub use native.Mathlib.Omega.{arith}
pub use borrow.Author.Rules.{rules}
pub use lib.Seq.{drop_at, drop-cons, drop-drop, drop-set-lt, get_or-append-add, get_or_at, get_or-drop, get_or-set_other, get_or-set_same, get_or-take, length_front, length-paste, length-take-le, lt-length-set, map-set_same, paste, paste-suc, paste-zero, set_at, set-get_or, set_out, set_split, take-add, take_all, take-append_seam, take_at, take-length, take-set-lt, take-suc, take-suc-set, take-take}
pub use lib.Dec.{T, eqb, leb, leb-suc-suc, lit<, ltb}
pub use mir.Val.{Fits, SFits, hbits, of_z, to_z}
pub use mathlib.Core.Logic.{◌⊎◌, inl, inr, ⊎_elim}
pub use native.Mathlib.Nat.{add_assoc, add_comm, add-sub_cancel_left, add-zero, div-add-mod', div-eq_of_lt-le, div-lt_iff_lt-mul, div-mul-le_self, div-zero, eq-zero-or-pos, le_antisymm, le-div_iff_mul-le, le-mul_of_pos_right, le_of_lt, le_of_mul-le-mul_right, le_of_suc-le-suc, le_trans, lt_of_le_of_lt, min-le_left, min-le_right, mod-lt, mod-zero, mul-div_cancel, mul-le-mul, mul-le-mul_left, mul-le-mul_right, mul-lt-mul_of_pos_right, mul-mod_left, not-suc-le-zero, pos_of_ne-zero, pow-suc, zero-add, zero-min}
pub use mir.Syntax.{Width, w64}
pub use mir.Facts.{to_z-of_z, to_z_pos}
pub use lib.Signed.{le_z, lt_z, mag, non_neg}
pub use native.Mathlib.Numerals.{add-one}
unfoldable pub use Rattle.numbers.specs.Lists.{Every, apart, ascending, counted, every, largest, largest_from, ordered, passing, placed, put, some}
pub use Rattle.numbers.specs.Lists.{◌and◌, entry, entry_ℤ, less, listed, over}
unfoldable pub use Rattle.numbers.specs.Sums.{gathered, many}
pub use Rattle.numbers.specs.Sums.{total, total_ℤ}
pub use Rattle.numbers.specs.Whole.{between, within}
unfoldable pub use Rattle.numbers.specs.Little.{all_zero, bytes_of, number_of}
unfoldable pub use Rattle.numbers.specs.Bytes.{before, big_endian, same}
