pub mod InboxLemmas
