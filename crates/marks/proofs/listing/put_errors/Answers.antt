-- `put_errors` meets its contract: in the loop the lines so far have been put.
use Rattle.std.proofs.Common.{◌≡◌, ◌<◌, ◌∙◌, sym, [], ap, arith, length, take, get_or}
use Rattle.std.specs.Iterator.Adapters.{zip_first, zip_second}
use Rattle.std.specs.Slice.Iter.{iter_rest}
use Rattle.std.proofs.lemmas.List.{length_push}
use Rattle.std.specs.Simd.{first_chunks}
use lib.Seq.{length-take-le}
use Rattle.std.proofs.lemmas.Slice.Zip.{zip_turn, zip_end}
use Rattle.syntax.specs.Layout.{count, capacity}
use Rattle.syntax.specs.Listing.{line, lines}
use Rattle.output.proofs.Puts.{did_as}
use Rattle.marks.specs.Rows.{rows, error_row}
use Rattle.marks.proofs.Lines.{put-no-row, put-row, error-row}
use Rattle.marks.proofs.listing.put_errors.Goals as goal

pub split_at-requires : goal.split_at-requires
unfolding capacity count
split_at-requires c = omega (arith, c.requires.held.counted, c.requires.held.words)

pub slice_bounds-iter-end : goal.slice_bounds-iter-end
unfolding capacity count
slice_bounds-iter-end c = sym (length-take-le _ _ (omega (arith, c.split_at.ensures.front_len, c.requires.held.counted)))

pub loop-kind-init : goal.loop-kind-init
loop-kind-init c = put-no-row _ c.requires.fits

pub loop-kind-preserved : goal.loop-kind-preserved
unfolding count capacity
loop-kind-preserved c =
    let t = c.args.errors.now in
    let n = get_or t 0 0 in
    let i = length c.loop-kind.yielded in
    let e : iter_rest (zip_first c.into_iter-kind-iterator.result) ≡ take n c.split_at.result.0.now = cc in
    let g : iter_rest (zip_second c.into_iter-kind-iterator.result) ≡ c.as_chunks.result.0.now = cc in
    let h =
    zip_turn _ _ _ c.into_iter-kind-iterator.result _ c.next.new.self _ e g c.loop-kind.yielded_by _ c.in-Some.is
    c.next.ensures.steps in
    let l : i < n =
    omega (
      arith,
      h.0,
      length-take-le n c.split_at.result.0.now
          (omega (arith, c.split_at.ensures.front_len, c.requires.held.counted)),
    ) in
    let k = h.2 0 ∙ ap (λ xs. get_or (take n xs) i 0) c.split_at.ensures.front in
    let p = h.3 [] ∙ ap (λ xs. get_or xs i []) (c.as_chunks.ensures.front ∙ ap (first_chunks 6 _) c.split_at.ensures.back) in
    rw (length_push c.loop-kind.yielded _)
    (put-row _ _ (omega arith) c.loop-kind.invariant
    (did_as c.put_error.ensures
    (ap line (error-row t i _ _ _ c.requires.held l (omega (arith, h.1, c.as_chunks.ensures.front_len)) k p))))

pub returns : goal.returns
unfolding count capacity
returns c =
    let t = c.args.errors.now in
    let n = get_or t 0 0 in
    let e : iter_rest (zip_first c.into_iter-kind-iterator.result) ≡ take n c.split_at.result.0.now = cc in
    let g : iter_rest (zip_second c.into_iter-kind-iterator.result) ≡ c.as_chunks.result.0.now = cc in
    let h =
    zip_end _ _ _ c.into_iter-kind-iterator.result _ c.next.new.self _ e g c.loop-kind.yielded_by c.in-None.is
    c.next.ensures.steps in
    let l : length c.loop-kind.yielded ≡ n =
    omega (
      arith,
      h,
      c.as_chunks.ensures.front_len,
      length-take-le n c.split_at.result.0.now (omega (arith, c.split_at.ensures.front_len, c.requires.held.counted)),
      c.split_at.ensures.back_len,
      c.requires.held.counted,
      c.requires.held.words,
    ) in
    did_as c.loop-kind.invariant (ap (λ k. lines (rows (error_row t) k)) l)
