-- The calls' `ensures`, one after the other: what the lists hold is a `Split`.
use Rattle.numbers.proofs.Words.{ℕ, ◌+◌, ◌≤◌, arith, ◌≡◌, sym, ap, ap₂, subst₂, ◌∙◌, List, ◌++◌, flat_map, length, replicate, length-append, ℤ, less}
use Rattle.numbers.proofs.Front.{Front, front_of}
use Rattle.numbers.proofs.Ranges.{listed-length}
use Rattle.rules.specs.declared.book.{Section.Section, Notice.Notice}
use Rattle.rules.specs.Expiry.Passes.{Line}
use Rattle.rules.specs.Expiry.Drawing.{drawn}
use Rattle.method_laws.specs.Columns.{by_key}
use Rattle.method_laws.proofs.Columns.{sellers_long}
use Rattle.method_passes.specs.Formed.{lines_in, pass_pairs, pass_lines}
use Rattle.method_passes.proofs.Arrays.{lines_count}
use Rattle.method_register.specs.Passes.{long_lots, in_codes, pairs_by, lines_by, Read, Drawing, Delivers, Expiring, Parted}
use Rattle.method_register.proofs.Laws.{outside_of, Split, all_pairs, all_kept, sold_of, read_of, lines_of_lem, room}
use Rattle.method_register.proofs.passes.run_passes.Goals as goal

near_long : {codes : List ℕ} {positions : List ℤ} {keys kept near far : List ℕ} → Parted codes positions keys kept near far → length near ≡ length kept
near_long {kept = kept} p = ap length p.near_is ∙ listed-length (length kept) _

-- what is drawn of the notices, inside and beyond that
split_of : {codes : List ℕ} {positions : List ℤ} {keys sellers stands lots kept near far inside beyond : List ℕ} → Expiring codes positions keys sellers stands lots kept → Parted codes positions keys kept near far → length inside ≡ length sellers
    → ((ss : List Section) (ns : List Notice) → Drawing ss ns positions sellers lots → inside ≡ drawn ss ns near)
    → ((ss : List Section) (ns : List Notice) → Drawing ss ns positions sellers lots → beyond ≡ less (drawn ss ns kept) inside)
    → {ss : List Section} {ns : List Notice} → Delivers ss ns codes positions keys sellers stands lots kept → Split ss ns kept near far inside beyond
split_of {positions = positions} {sellers = sellers} {lots = lots} e p full inner outer {ss} {ns} d =
    let read : Drawing ss ns positions sellers lots = record { positions_are = d.columns.positions_are; sellers_are = d.filed.sellers_are; lots_are = d.filed.lots_are } in
    record {
      far_is = p.far_is ss d.columns;
      near_is = p.near_is;
      inside_is = inner ss ns read;
      beyond_is = outer ss ns read;
      near_long = near_long p ∙ all_kept e d.columns;
      far_long = p.far_long ∙ all_kept e d.columns;
      inside_long = full ∙ sellers_long ns d.filed.sellers_are;
    }

pub draw-requires-clause-positions_len_bound : goal.draw-requires-clause-positions_len_bound
draw-requires-clause-positions_len_bound c =
    let held = c.requires.expiring.held in
    (omega (arith, held.positions_long, held.few), sym held.positions_long, near_long c.requires.parted ∙ sym held.positions_long)

pub keep_long-requires : goal.keep_long-requires
keep_long-requires c = c.requires.expiring.held.positions_long ∙ sym (near_long c.requires.parted)

pub inside_passes-formed-requires-clause-read : goal.inside_passes-formed-requires-clause-read
inside_passes-formed-requires-clause-read c =
    let a = c.args in
    let e = c.requires.expiring in
    let inside : Front (length a.notices.sellers.now) (replicate 256 0) c.draw.new.inside = front_of _ _ _ e.noticed.few c.draw.auto.inside in
    let split = split_of e c.requires.parted inside.full c.draw.ensures.inside_after c.draw.ensures.beyond_after e.delivers in (
      subst₂ (λ (bs xs : List ℕ). Read a.columns.codes.now a.columns.keys.now bs a.notices.sellers.now a.notices.stands.now xs) (sym c.keep_long.ensures) (sym inside.is) (read_of e split (sold_of e inside.full c.draw.ensures.by_index.0)),
      c.nothing-start.ensures.0,
      c.nothing-start.ensures.1,
    )

pub inside_passes-formed-requires-clause-drawn_len_bound : goal.inside_passes-formed-requires-clause-drawn_len_bound
inside_passes-formed-requires-clause-drawn_len_bound c =
    let a = c.args in
    let e = c.requires.expiring in
    let inside : Front (length a.notices.sellers.now) (replicate 256 0) c.draw.new.inside = front_of _ _ _ e.noticed.few c.draw.auto.inside in
    let split = split_of e c.requires.parted inside.full c.draw.ensures.inside_after c.draw.ensures.beyond_after e.delivers in
    subst₂ (λ (bs xs : List ℕ). length (flat_map (lines_by a.columns.keys.now a.notices.sellers.now a.notices.stands.now) (in_codes a.columns.codes.now a.notices.sellers.now bs xs)) ≤ 382) (sym c.keep_long.ensures) (sym inside.is) (omega (arith, room e split))

pub run-requires-clause-drawn_bound : goal.run-requires-clause-drawn_bound
run-requires-clause-drawn_bound c =
    let a = c.args in
    let e = c.requires.expiring in
    let formed = c.inside_passes-formed.result in
    let inside : Front (length a.notices.sellers.now) (replicate 256 0) c.draw.new.inside = front_of _ _ _ e.noticed.few c.draw.auto.inside in
    let beyond : Front (length a.notices.sellers.now) (replicate 256 0) c.draw.new.beyond = front_of _ _ _ e.noticed.few c.draw.auto.beyond in
    let split = split_of e c.requires.parted inside.full c.draw.ensures.inside_after c.draw.ensures.beyond_after e.delivers in
    -- what the inside passes form, of what the lists hold
    let inside_lines : lines_in formed.register ≡ flat_map (lines_by a.columns.keys.now a.notices.sellers.now a.notices.stands.now) (in_codes a.columns.codes.now a.notices.sellers.now (long_lots a.columns.positions.now a.near.now) c.draw.new.inside) =
    c.inside_passes-formed.ensures.register_value ∙ ap₂ (λ (bs xs : List ℕ). flat_map (lines_by a.columns.keys.now a.notices.sellers.now a.notices.stands.now) (in_codes a.columns.codes.now a.notices.sellers.now bs xs)) c.keep_long.ensures inside.is in
    subst₂ (λ (bs xs : List ℕ). formed.register.count + length (pass_lines (by_key a.columns.keys.now) a.notices.sellers.now a.notices.stands.now bs xs) ≤ 382) (sym c.keep_long-2.ensures) (sym beyond.is)
    (omega (arith, room e split, lines_count formed.register, ap length inside_lines))

pub returns-clause-register_value : goal.returns-clause-register_value
returns-clause-register_value c =
    let a = c.args in
    let e = c.requires.expiring in
    let formed = c.inside_passes-formed.result in
    let inside : Front (length a.notices.sellers.now) (replicate 256 0) c.draw.new.inside = front_of _ _ _ e.noticed.few c.draw.auto.inside in
    let beyond : Front (length a.notices.sellers.now) (replicate 256 0) c.draw.new.beyond = front_of _ _ _ e.noticed.few c.draw.auto.beyond in
    let inside_lines : lines_in formed.register ≡ flat_map (lines_by a.columns.keys.now a.notices.sellers.now a.notices.stands.now) (in_codes a.columns.codes.now a.notices.sellers.now (long_lots a.columns.positions.now a.near.now) c.draw.new.inside) =
    c.inside_passes-formed.ensures.register_value ∙ ap₂ (λ (bs xs : List ℕ). flat_map (lines_by a.columns.keys.now a.notices.sellers.now a.notices.stands.now) (in_codes a.columns.codes.now a.notices.sellers.now bs xs)) c.keep_long.ensures inside.is in
    let last = lines_by a.columns.keys.now a.notices.sellers.now a.notices.stands.now (outside_of a.columns.positions.now a.far.now c.draw.new.beyond) in
    λ ss ns d.
    c.run.ensures.register_value
    ∙ ap₂ (λ (bs xs : List ℕ). lines_in formed.register ++ pass_lines (by_key a.columns.keys.now) a.notices.sellers.now a.notices.stands.now bs xs) c.keep_long-2.ensures beyond.is
    ∙ ap (λ (ls : List Line). ls ++ last) inside_lines
    ∙ lines_of_lem e d (split_of e c.requires.parted inside.full c.draw.ensures.inside_after c.draw.ensures.beyond_after d)

pub returns-clause-pairs_value : goal.returns-clause-pairs_value
returns-clause-pairs_value c =
    let a = c.args in
    let e = c.requires.expiring in
    let formed = c.inside_passes-formed.result in
    let inside : Front (length a.notices.sellers.now) (replicate 256 0) c.draw.new.inside = front_of _ _ _ e.noticed.few c.draw.auto.inside in
    let beyond : Front (length a.notices.sellers.now) (replicate 256 0) c.draw.new.beyond = front_of _ _ _ e.noticed.few c.draw.auto.beyond in
    let first = flat_map (pairs_by a.columns.keys.now a.notices.stands.now) (in_codes a.columns.codes.now a.notices.sellers.now (long_lots a.columns.positions.now a.near.now) c.draw.new.inside) in
    let inside_pairs : formed.pairs ≡ length first =
    c.inside_passes-formed.ensures.pairs_value ∙ ap₂ (λ (bs xs : List ℕ). length (flat_map (pairs_by a.columns.keys.now a.notices.stands.now) (in_codes a.columns.codes.now a.notices.sellers.now bs xs))) c.keep_long.ensures inside.is in
    let outer = outside_of a.columns.positions.now a.far.now c.draw.new.beyond in
    λ ss ns d.
    c.run.ensures.pairs_value
    ∙ ap₂ (λ (bs xs : List ℕ). formed.pairs + length (pass_pairs (by_key a.columns.keys.now) a.notices.stands.now bs xs)) c.keep_long-2.ensures beyond.is
    ∙ omega (arith, inside_pairs, length-append first (pairs_by a.columns.keys.now a.notices.stands.now outer), ap length (all_pairs d (split_of e c.requires.parted inside.full c.draw.ensures.inside_after c.draw.ensures.beyond_after d)))
