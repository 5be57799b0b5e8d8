-- A room is cut in two. Assumes `Logic`.
use mathlib.Core.Path.{◌≡◌, refl, sym, subst, ap, ◌∙◌}
use mathlib.Core.Bool.{Bool, true}
use Prim.Native.Nat.{ℕ, ◌+◌, ◌-◌, ◌*◌, ◌≤◌, ◌<◌, ◌^◌}
use native.Mathlib.Omega.{arith}
use mathlib.Core.List.{List, [], ◌∷◌, ◌++◌}
use lib.ListN.{length, take, drop as drop_l, replicate, length-replicate, take-append-drop, length-drop}
use lib.Seq.{length-take-le}
use mir.Syntax.{Fn, w64}
use mir.Val.{Val, vint, vstruct, vcons, vnil}
use seplogic.Ra.Ura.{Ura}
use mir.MapTy.{inst_fn}
use base.Logic.{SProp, ent, id⊢}
use prog.Memory.{Memory, capped}
use prog.Routine.{Routine}
use prog.Wp.{Env, WpFn, Tables}
use types.Logic.{Logic}
use contract.BorrowLft.{◌⊑◌}
use contract.Monad.{Fun, fact}
use contract.Running.{tables, tables_of}
use denote.RattleType.{RattleType, owns, Valss}
use denote.Signature.{plain, types_at}
use denote.Steps.{heard, nothing}
use denote.Triple.Clauses.{Clauses, Ended, closing}
use denote.Triple.Spec.{Meets, triple_of}
use denote.Triple.Table.{entered}
use sound.WpLaws.{WpFn-mono}
use types.Kit.{‵, raw, ◌⊛◌, at_ret, ◌$◌, ◌∵◌, !, qed, move, keep, drop, use1, split, rewrite, fsplit, fjoin, fjoin3, fpack, feq_l, feq_i, flt_l, suffices, done}
use types.Part.{whole, sub, agg}
use types.Run.{stop, fld, of_opd, bin, size_word, and_then, no_more, first, blocks, exec, returns, enter}
use types.ByLocal.{alloc_all, pass_all, free_all, look_at, get, get_in, sets, sets_last, is, env}
use denote.Exit.{yes, no}
use denote.Builtin.{usize}
use denote.RawPtr.{block_ptr}
use denote.Struct.Struct.{within}
use denote.Struct.Declared.{shape}
use denote.Struct.Tuple.{tuple_type}
use denote.Triple.Entry.{alive}
use denote.Triple.Walked.{says, Stays, stay_dropped, walk_of, ends_at, Goes-dropped, walk_Meets}
use Rattle.core.specs.Ptr.{ptr_add}
use Rattle.core.specs.Mem.Slots.Ownership.{slots}
use Rattle.core.proofs.mem.Param.{El, R, args, el_x}
use Rattle.core.proofs.ptr.Rows.{times_below}
use native.Mathlib.Nat.{zero-mul, suc-mul}
use Prim.Native.Nat.{zero, suc}
use prog.Capped.{capped_is}
use Rattle.core.proofs.slots.Bodies.{after}
use Rattle.core.proofs.slots.Places.{sz, row_cut}
use Rattle.core.proofs.slots.Opens.{row_val}
use Rattle.apl_rooms.proofs.Opens.{Rr, room_d, places, room_had, room_made}
use Rattle.apl_rooms.specs.contracts.room.Room.cut as F
use Rattle.apl_rooms.specs.contracts.room.Room.cut.Key.{name as #self}
use Rattle.apl_rooms.proofs.room.Room.cut.Statement as stated
use Rattle.apl_rooms.proofs.room.Room.cut.Code as code

-- where the product fits a word, the count is zero or the size fits too
uncapped : (i k : ℕ) → i * k < 2 ^ 64 → i * capped k ≡ i * k
uncapped zero k h = zero-mul (capped k) ∙ sym (zero-mul k)
uncapped (suc i) k h = let step = suc-mul i k in ap (λ (j : ℕ). suc i * j) (capped_is k (omega arith))

trues : (m k : ℕ) → replicate (m + k) true ≡ replicate m true ++ replicate k true
trues zero k = ap (λ (j : ℕ). replicate j true) (let e : 0 + k ≡ k = omega arith in e)
trues (suc m) k = ap (λ (j : ℕ). replicate j true) (let e : suc m + k ≡ suc (m + k) = omega arith in e) ∙ ap (λ (l : List Bool). true ∷ l) (trues m k)

module _ (E : El) where
  abbrev here : Fn
  here = inst_fn (args E) code.function

  abbrev ended : Ended
  ended = F.ended E.row

  abbrev stayed : Stays ended.signature.params ended.kept
  stayed = (stay_dropped (plain (λ _. Rr E)) no, (stay_dropped (plain (λ _. usize)) yes, tt))

  module _ {M : Type 1} {𝓤 : Ura M} (𝓛 : Logic 𝓤) (at_mem : Memory → SProp 𝓤) (run : Routine → Fun 𝓤) (𝓣 : Tables 𝓤 𝓛.H) where
    open 𝓛 use {H}

    abbrev held : Clauses 𝓤 ended
    held = F.clauses E.row 𝓛 at_mem run

    abbrev Bound : Type 0
    Bound = (walk_of 𝓛 ended stayed held).Ghost

    abbrev Goes : Bound → Type 1
    Goes y = ent 𝓤 ((walk_of 𝓛 ended stayed held).pre y) (WpFn 𝓤 H 𝓣.C 𝓣.Λ here ((walk_of 𝓛 ended stayed held).args y) ((walk_of 𝓛 ended stayed held).post y))

    walk : (z : Bound) → Goes z
    walk z =
        let h : room_d E = z.0.3.0 in let n : ℕ = h.len in let m : ℕ = z.0.3.1.0 in let vss = z.0.4 in
        let Post : Val → SProp 𝓤 = (walk_of 𝓛 ended stayed held).post z in
        let Run : List Val → SProp 𝓤 = λ ws. WpFn 𝓤 H 𝓣.C 𝓣.Λ here ws Post in
        qed 𝓛 ((raw (alive 𝓛 ended.signature z.0.0 z.0.1) ⊛ ‵ (owns (types_at ended.signature.params z.0.0) z.0.3 vss)) ∷ (raw (fact 𝓤 (z.0.0.0 ⊑ E.row.lives)) ⊛ raw (fact 𝓤 (m ≤ n))) ∷ []) ∵
        move ! (1 ∷ []) $ split ! $ drop ! $ heard ! (m ≤ n) (λ le.
        split ! $ move ! (1 ∷ []) $ fsplit ! $ room_had E ! h vss.0 (λ b o at_b e fn fit.
        move ! (1 ∷ []) $ fsplit ! $ fsplit ! $ feq_l ! (λ e₁. flt_l ! (λ fm. drop ! $
        let s : ℕ = sz E in
        let part : m * s < 2 ^ 63 = times_below m n s (2 ^ 63) le fit in let fs : m * s < 2 ^ 64 = omega arith in let fr : n - m < 2 ^ 64 = omega arith in
        let us : List Val = row_val b o n ∷ vint w64 m ∷ [] in
        suffices ! (Run us) (subst (λ (ws : List Val). ent 𝓤 (Run us) (Run ws)) (sym (λ k. e k ++ (e₁ k ++ []))) (id⊢ 𝓤 (Run us))) $
        enter ! 𝓣.C 𝓣.Λ here us Post $ alloc_all ! (λ l. pass_all ! refl ((tt, (tt, (record { fits = fn }, tt))), ((tt, record { fits = fm }), tt)) $
        let En : Env 𝓤 H = env here.locals l in
        sets ! (of_opd ! (get_in ! (fld ! refl (stop !)) (sub ! 0 refl (whole !)))) refl (tt, tt) $ sets ! (of_opd ! (get_in ! (fld ! refl (stop !)) (sub ! 1 refl (whole !)))) refl (tt, record { fits = fn }) $
        sets ! (bin ! (get ! refl) (get ! refl) le) refl (tt, record { fits = fr }) $
        first ! $ blocks ! $
        sets ! (is ! (bin ! (get ! refl) (size_word !) (record { fits = subst (λ (k : ℕ). k < 2 ^ 64) (sym (uncapped m s fs)) fs })) (ap (vint w64) (uncapped m s fs))) refl (tt, record { fits = fs }) $
        sets_last ! (bin ! (get ! refl) (get ! refl) tt) refl (tt, tt) $
        exec ! 𝓣.C 𝓣.Λ En (after 4 here.body) (at_ret En Post) $
        sets ! (of_opd ! (get ! refl)) refl (tt, tt) $
        sets ! (agg ! (and_then ! (get ! refl) (and_then ! (get ! refl) (no_more !)))) refl (tt, (tt, (record { fits = fm }, tt))) $
        sets ! (agg ! (and_then ! (get ! refl) (and_then ! (get ! refl) (no_more !)))) refl (tt, (tt, (record { fits = fr }, tt))) $
        sets ! (agg ! (and_then ! (get ! refl) (and_then ! (get ! refl) (no_more !)))) refl (tt, ((tt, (record { fits = fm }, tt)), ((tt, (record { fits = fr }, tt)), tt))) $
        let xs : List (el_x E) = h.items in let lx : n ≡ length xs = h.ok in
        let front : List (el_x E) = take m xs in let back : List (el_x E) = drop_l m xs in
        let lf : length front ≡ m = length-take-le m xs (omega arith) in
        let lb : length back ≡ n - m = (let d = length-drop m xs in omega arith) in
        let at : ℕ = m * s + o in
        let one : room_d E = record { ptr = block_ptr b o; len = m; items = front; ok = sym lf; small = fm } in
        let two : room_d E = record { ptr = block_ptr b at; len = n - m; items = back; ok = sym lb; small = fr } in
        let whole_is : m + (n - m) ≡ n = omega arith in
        rewrite ! 0 (λ (l : List (el_x E)). ‵ (slots (R E) (block_ptr b o) l (replicate n true))) (sym (take-append-drop m xs)) refl $
        rewrite ! 0 (λ (l : List Bool). ‵ (slots (R E) (block_ptr b o) (front ++ back) l)) (ap (λ (j : ℕ). replicate j true) (sym whole_is) ∙ trues m (n - m)) refl $
        use1 𝓛 (‵ (places E one b o) ⊛ ‵ (places E two b at)) (row_cut E 𝓛 b front back (replicate m true) (replicate (n - m) true) o at (length-replicate m true ∙ sym lf) (ap (λ (k : ℕ). k * s + o) (sym lf))) $ split ! $
        room_made E ! one b o refl fm part $ move ! (1 ∷ []) $ room_made E ! two b at refl fr (times_below (n - m) n s (2 ^ 63) (omega arith) fit) $
        let v : Val = vstruct (vcons (row_val b o m) (vcons (row_val b at (n - m)) vnil)) in
        let Both : List RattleType = Rr E ∷ Rr E ∷ [] in
        move ! (1 ∷ 0 ∷ []) $ nothing ! $ move ! (2 ∷ 0 ∷ []) $ fjoin ! $ move ! (1 ∷ 0 ∷ []) $ fjoin ! $
        feq_i ! (List Val) (v ∷ []) (v ∷ []) refl $ fjoin ! $
        fpack ! (Valss Both) (within (shape (tuple_type Both)) (one, (two, tt)) (v ∷ [])) (row_val b o m ∷ [], (row_val b at (n - m) ∷ [], tt)) $
        returns ! (look_at ! 0 refl) $ free_all ! refl $
        suffices ! _ (ends_at 𝓛 ended stayed held z v (one, two) (tt, (tt, tt)) (tt, (tt, tt))) $ says ! (refl, refl, sym at_b, refl, ap (ptr_add (R E) m) (sym at_b), (let w : (n - m) + m ≡ n = omega arith in w), fit) $
        nothing ! $ nothing ! $ nothing ! $ fjoin3 ! $ keep ! (2 ∷ 0 ∷ 1 ∷ []) $ done !)))))

    meets : Meets 𝓛 ended.signature (WpFn 𝓤 H 𝓣.C 𝓣.Λ here) (closing 𝓛 ended held)
    meets =
        walk_Meets 𝓛 ended stayed (Goes-dropped 𝓛 1 (plain (λ _. Rr E)) no (λ κs x f. refl), (Goes-dropped 𝓛 1 (plain (λ _. usize)) yes (λ κs x f. refl), tt)) held
        (WpFn 𝓤 H 𝓣.C 𝓣.Λ here) (WpFn-mono 𝓤 H 𝓛.laws 𝓣 here) walk

pub cut_spec : {M : Type 1} → stated.statement M
unfolding tables_of
cut_spec 𝓤 𝓛 𝓜 𝓡 wired X L =
    let E : El = record { row = X; laws = L } in
    let 𝓣 : Tables 𝓤 𝓛.H = tables_of 𝓤 𝓛.H 𝓜 (tables 𝓤 𝓛.H 𝓜 𝓡 𝓡.env) in
    entered 𝓤 𝓛.H (triple_of 𝓛 (F.signature X) (F.spec X 𝓛 𝓜.mem 𝓡.returns)) 𝓣.C 𝓣.Λ (#self (args E)) (here E) (code.unfolded 𝓤 𝓛.H 𝓜 𝓡 wired (X, tt))
    (meets E 𝓛 𝓜.mem 𝓡.returns 𝓣)
