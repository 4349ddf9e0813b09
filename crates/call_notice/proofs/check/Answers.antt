use Rattle.book_laws.proofs.Good.{facts}
use Rattle.call_notice.proofs.check.Goals as goal

pub notice_filed-requires : goal.notice_filed-requires
notice_filed-requires c = (facts _ c.requires).filed
