-- `Serializer::serialize_entry` meets its contract.
use Rattle.std.proofs.Common.{sym, ap, ◌∙◌}
use Rattle.serializer.specs.Serialize.{state_of}
use Rattle.tree.proofs.Sizes.{sizes}
use Rattle.tree.proofs.Walk.{at_count}
use Rattle.serializer.proofs.TopLevel.{as-message, as-term, as-junk, as-comment, as-group, as-resource, as-attached}
use Rattle.serializer.proofs.Loops.{did_as}
use Rattle.syntax.specs.declared.kind.Kind.TheVariants as Kinds
use Rattle.syntax.specs.Kind.{number_of}
use Rattle.serializer.proofs.Numbers.{entry-kind, unlike}
use Rattle.serializer.proofs.serializer.Serializer.serialize_entry.Goals as goal

pub kind_at-requires : goal.kind_at-requires
kind_at-requires c =
    let tree = c.args.self.now.nodes.tree.now in
    record {
      mark_bound = at_count tree (sizes tree c.args.self.now.nodes.fit) c.requires.node.at;
      is_kind = entry-kind c.requires.node;
    }

pub serialize_message-requires : goal.serialize_message-requires
serialize_message-requires c =
    let s = c.args.self.now in (as-message s.nodes.source.now s.nodes.tree.now (state_of s) c.args.with_junk c.args.wrote c.requires (sym c.kind_at.ensures ∙ ap number_of c.in-Message.is)).ready

pub returns-in-Message : goal.returns-in-Message
returns-in-Message c =
    let s = c.args.self.now in
    let a = as-message s.nodes.source.now s.nodes.tree.now (state_of s) c.args.with_junk c.args.wrote c.requires (sym c.kind_at.ensures ∙ ap number_of c.in-Message.is) in
    did_as c.serialize_message.ensures (a.done c.serialize_message.ensures.went)

pub serialize_term-requires : goal.serialize_term-requires
serialize_term-requires c =
    let s = c.args.self.now in (as-term s.nodes.source.now s.nodes.tree.now (state_of s) c.args.with_junk c.args.wrote c.requires (sym c.kind_at.ensures ∙ ap number_of c.in-Term.is)).ready

pub returns-in-Term : goal.returns-in-Term
returns-in-Term c =
    let s = c.args.self.now in
    let a = as-term s.nodes.source.now s.nodes.tree.now (state_of s) c.args.with_junk c.args.wrote c.requires (sym c.kind_at.ensures ∙ ap number_of c.in-Term.is) in
    did_as c.serialize_term.ensures (a.done c.serialize_term.ensures.went)

pub serialize_free_comment-requires : goal.serialize_free_comment-requires
serialize_free_comment-requires c =
    let s = c.args.self.now in
    let a = as-comment s.nodes.source.now s.nodes.tree.now (state_of s) c.args.with_junk c.args.wrote c.requires (sym c.kind_at.ensures ∙ ap number_of c.in-Comment.is) in
    record { comment_at = a.at; room = a.room }

pub returns-in-Comment : goal.returns-in-Comment
returns-in-Comment c =
    let s = c.args.self.now in
    let d = c.serialize_free_comment.ensures in
    let a = as-comment s.nodes.source.now s.nodes.tree.now (state_of s) c.args.with_junk c.args.wrote c.requires (sym c.kind_at.ensures ∙ ap number_of c.in-Comment.is) in
    did_as d (a.done d.went.wrote d.went.next)

pub serialize_free_comment-requires-in-GroupComment : goal.serialize_free_comment-requires-in-GroupComment
serialize_free_comment-requires-in-GroupComment c =
    let s = c.args.self.now in
    let a = as-group s.nodes.source.now s.nodes.tree.now (state_of s) c.args.with_junk c.args.wrote c.requires (sym c.kind_at.ensures ∙ ap number_of c.in-GroupComment.is) in
    record { comment_at = a.at; room = a.room }

pub returns-in-GroupComment : goal.returns-in-GroupComment
returns-in-GroupComment c =
    let s = c.args.self.now in
    let d = c.serialize_free_comment-in-GroupComment.ensures in
    let a = as-group s.nodes.source.now s.nodes.tree.now (state_of s) c.args.with_junk c.args.wrote c.requires (sym c.kind_at.ensures ∙ ap number_of c.in-GroupComment.is) in
    did_as d (a.done d.went.wrote d.went.next)

pub serialize_free_comment-requires-in-ResourceComment : goal.serialize_free_comment-requires-in-ResourceComment
serialize_free_comment-requires-in-ResourceComment c =
    let s = c.args.self.now in
    let a = as-resource s.nodes.source.now s.nodes.tree.now (state_of s) c.args.with_junk c.args.wrote c.requires (sym c.kind_at.ensures ∙ ap number_of c.in-ResourceComment.is) in
    record { comment_at = a.at; room = a.room }

pub returns-in-ResourceComment : goal.returns-in-ResourceComment
returns-in-ResourceComment c =
    let s = c.args.self.now in
    let d = c.serialize_free_comment-in-ResourceComment.ensures in
    let a = as-resource s.nodes.source.now s.nodes.tree.now (state_of s) c.args.with_junk c.args.wrote c.requires (sym c.kind_at.ensures ∙ ap number_of c.in-ResourceComment.is) in
    did_as d (a.done d.went.wrote d.went.next)

pub serialize_comment-requires : goal.serialize_comment-requires
serialize_comment-requires c =
    let s = c.args.self.now in
    let a = as-attached s.nodes.source.now s.nodes.tree.now (state_of s) c.args.with_junk c.args.wrote c.requires (sym c.kind_at.ensures ∙ ap number_of c.in-AttachedComment.is) in
    record { comment_at = a.at; room = a.room }

pub returns-in-AttachedComment : goal.returns-in-AttachedComment
returns-in-AttachedComment c =
    let s = c.args.self.now in
    let d = c.serialize_comment.ensures in
    let a = as-attached s.nodes.source.now s.nodes.tree.now (state_of s) c.args.with_junk c.args.wrote c.requires (sym c.kind_at.ensures ∙ ap number_of c.in-AttachedComment.is) in
    did_as d (a.done d.went.wrote d.went.next)

pub serialize_junk-requires : goal.serialize_junk-requires
serialize_junk-requires c =
    let s = c.args.self.now in
    (as-junk s.nodes.source.now s.nodes.tree.now (state_of s) c.args.with_junk c.args.wrote c.requires
    (unlike c.kind_at.ensures Kinds.Message c.in_default.not-Message)
    (unlike c.kind_at.ensures Kinds.Term c.in_default.not-Term)
    (unlike c.kind_at.ensures Kinds.Comment c.in_default.not-Comment)
    (unlike c.kind_at.ensures Kinds.GroupComment c.in_default.not-GroupComment)
    (unlike c.kind_at.ensures Kinds.ResourceComment c.in_default.not-ResourceComment)
    (unlike c.kind_at.ensures Kinds.AttachedComment c.in_default.not-AttachedComment)).ready

pub returns-in_default : goal.returns-in_default
returns-in_default c =
    let s = c.args.self.now in
    let a =
    as-junk s.nodes.source.now s.nodes.tree.now (state_of s) c.args.with_junk c.args.wrote c.requires
    (unlike c.kind_at.ensures Kinds.Message c.in_default.not-Message)
    (unlike c.kind_at.ensures Kinds.Term c.in_default.not-Term)
    (unlike c.kind_at.ensures Kinds.Comment c.in_default.not-Comment)
    (unlike c.kind_at.ensures Kinds.GroupComment c.in_default.not-GroupComment)
    (unlike c.kind_at.ensures Kinds.ResourceComment c.in_default.not-ResourceComment)
    (unlike c.kind_at.ensures Kinds.AttachedComment c.in_default.not-AttachedComment) in
    did_as c.serialize_junk.ensures (a.done c.serialize_junk.ensures.went)
